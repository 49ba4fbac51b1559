-- From the visit in hand on the visits come to what all of them do.
use Rattle.command_flow.specs.Templates.{IsVisit, seeking_by, visits_from}
use Rattle.command_flow.proofs.VisitsMade.{VisitsTo}
use Rattle.command_flow.proofs.templates.visits_found.Given as goal

abbrev pub invariant-loop : goal.invariant-loop
invariant-loop g l = record {
  comes : VisitsTo (seeking_by l.at.checker.now (g.M.Loops.made l.maker)) l.name l.at.command.place l.lasting l.counter l.visit
      (visits_from 65 (seeking_by l.at.checker.now (g.M.Loops.made l.maker)) l.name l.at.command.place l.lasting l.fn.first);
  visit : IsVisit l.at.style.now l.visit;
}

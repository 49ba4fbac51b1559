-- A name that takes part is added, and any other is passed over.
use Rattle.std.proofs.Common.{◌≡◌, ◌+◌, ◌<◌, ap, sym, ◌∙◌, subst, List, ◌∷◌, [], ◌++◌, length, drop, Vec, Global, arith}
use Rattle.std.specs.List.{All}
use Rattle.std.proofs.lemmas.List.Elements.{All-push}
use Rattle.name_table.specs.declared.names.NameId.{NameId}
use Rattle.sym_state.specs.WellMade.{ids_from, takes_part}
use Rattle.sym_state.proofs.Started.{id_taken, id_passed}
use Rattle.sym_state.proofs.start.names_in_play.Goals as goal
use Rattle.sym_state.proofs.start.names_in_play.Goals.{then-takes_part+in_ok-push, else-takes_part}

pub loop-id-preserved : goal.loop-id-preserved
loop-id-preserved c =
    let test = takes_part c.args.at_entry in
    let all = ids_from test 0 c.args.style.now.names in
    elim c.if-takes_part.branch [
      | then-takes_part+in_ok-push w ↦
          let new : c.if-takes_part.names.items ≡ c.loop-id.names.items ++ record { 0 = c.loop-id.id } ∷ [] =
          ap (λ (v : Vec NameId Global). v.items) w.names-is ∙ w.in_ok-push.ensures.items in
          record {
            names = ap (λ (ids : List NameId). ids ++ ids_from test (c.loop-id.id + 1) (drop (c.loop-id.id + 1) c.args.style.now.names)) new
                ∙ id_taken test c.loop-id.names.items all c.loop-id.id c.args.style.now.names c.kind.result c.kind.ensures
                (sym c.takes_part.ensures ∙ w.if-takes_part.true) c.loop-id.invariant.names;
            within = subst (λ (ids : List NameId). All (λ name. name.0 < length c.args.style.now.names) ids) (sym new)
                (All-push (λ name. name.0 < length c.args.style.now.names) c.loop-id.names.items (record { 0 = c.loop-id.id }) c.loop-id.invariant.within (omega arith));
          }
      | else-takes_part w ↦
          let same : c.if-takes_part.names.items ≡ c.loop-id.names.items = ap (λ (v : Vec NameId Global). v.items) w.names-is in
          record {
            names = ap (λ (ids : List NameId). ids ++ ids_from test (c.loop-id.id + 1) (drop (c.loop-id.id + 1) c.args.style.now.names)) same
                ∙ id_passed test c.loop-id.names.items all c.loop-id.id c.args.style.now.names c.kind.result c.kind.ensures
                (sym c.takes_part.ensures ∙ w.if-takes_part.false) c.loop-id.invariant.names;
            within = subst (λ (ids : List NameId). All (λ name. name.0 < length c.args.style.now.names) ids) (sym same) c.loop-id.invariant.within;
          }
    ]

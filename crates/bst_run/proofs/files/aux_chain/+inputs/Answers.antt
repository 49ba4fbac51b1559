use Rattle.std.proofs.Common.{◌≡◌, ◌<◌, [], ◌∷◌, None, Ok, Err, refl, sym, ◌∙◌, ap, subst, arith, rules}
use Rattle.std.proofs.lemmas.List.{nil_from_length}
use Rattle.std.proofs.lemmas.Result.{err_from_is_err_and}
use Rattle.std.specs.Vec.Iter.{into_iter_items}
use Rattle.aux_read.specs.FileNames.{HaveFileNames}
use Rattle.aux_read.specs.Keys.{HaveKeys}
use Rattle.aux_read.specs.declared.aux.AuxItem.TheVariants.{Input}
use Rattle.bst_run.specs.declared.files.requests.Requests.{Requests}
use Rattle.bst_run.specs.declared.stop.Stop.TheVariants.{NoMemory}
use Rattle.bst_run.specs.AuxChain.{take_aux, take_input, with_names}
use Rattle.bst_run.specs.FilesBegun.{input_begun, items_begun}
use Rattle.bst_run.specs.Requests.{fault_after}
use Rattle.bst_run.proofs.BegunLemmas.{so_far_wanting}
use Rattle.bst_run.proofs.ChainLemmas.{begun_ended, begun_next, begun_stopped, begun_whole, input_taken, input_taken_begun, input_unread, input_unread_begun, items_taken_begun, left_next, left_whole, none_of}
use Rattle.bst_run.proofs.ReadsLemmas.{reads_wanting}
use Rattle.bst_run.proofs.files.aux_chain.+inputs.Goals as goal

-- the input isn't read
pub take_input-returns-in_err-aux-clause-reads : goal.take_input-returns-in_err-aux-clause-reads
take_input-returns-in_err-aux-clause-reads g t c =
    let some : 0 < c.args.levels = omega arith in
    let p = err_from_is_err_and c.from_residual.result c.from_residual.ensures.1 in
    rw (p.1, p.2)
    (input_unread g.F.Files c.args.files.now _ c.args.levels c.args.name.now c.text_of-name.result.now c.args.before c.in_err-aux.field-0.0 _
    some c.text_of-name.ensures c.in_err-aux.ensures.reads refl)

-- the input is read, and taken
pub take_input-returns-clause-reads : goal.take_input-returns-clause-reads
take_input-returns-clause-reads g t c =
    let some : 0 < c.args.levels = omega arith in
    input_taken g.F.Files c.args.files.now _ _ c.args.levels c.args.name.now c.text_of-name.result.now c.args.before c.in_ok-aux.aux c.take_aux.result
    some c.text_of-name.ensures c.in_ok-aux.ensures.reads c.take_aux.ensures.reads

pub take_input-returns-in_err-aux-clause-begun : goal.take_input-returns-in_err-aux-clause-begun
take_input-returns-in_err-aux-clause-begun g t c =
    let some : 0 < c.args.levels = omega arith in
    let p = err_from_is_err_and c.from_residual.result c.from_residual.ensures.1 in
    rw (p.1, p.2)
    (input_unread_begun (g.F.Files.told c.args.files.now) c.args.levels c.args.name.now c.text_of-name.result.now c.args.before (g.F.Files.begun c.args.files.now) _
    c.in_err-aux.field-0.0 some c.text_of-name.ensures c.in_err-aux.ensures.reads.gives c.in_err-aux.ensures.begun)

pub take_input-returns-clause-begun : goal.take_input-returns-clause-begun
take_input-returns-clause-begun g t c =
    let some : 0 < c.args.levels = omega arith in
    input_taken_begun (g.F.Files.told c.args.files.now) _ c.args.levels c.args.name.now c.text_of-name.result.now c.args.before c.in_ok-aux.aux
    (g.F.Files.begun c.args.files.now) _ _ c.take_aux.result some c.text_of-name.ensures c.in_ok-aux.ensures.reads.told c.in_ok-aux.ensures.reads.gives
    c.in_ok-aux.ensures.begun c.take_aux.ensures.begun

-- no item was taken
pub take_aux-loop-item-init : goal.take_aux-loop-item-init
take_aux-loop-item-init g t c =
    let same : into_iter_items c.into_iter-item-iterator.result ≡ c.args.aux.items = c.into_iter-item-iterator.ensures.into_iter_gives.0 ∙ c.into_vec-item-items.ensures in
    record {
      told = refl;
      count = omega arith;
      left = left_whole (g.F.Files.told c.args.files.now) c.args.levels c.args.before c.args.aux (into_iter_items c.into_iter-item-iterator.result) c.first_style.result c.first_databases.result
          same c.first_style.ensures.first c.first_databases.ensures.first;
      begun = begun_whole (g.F.Files.told c.args.files.now) c.args.levels c.args.before c.args.aux (into_iter_items c.into_iter-item-iterator.result) c.first_style.result c.first_databases.result
          (g.F.Files.begun c.args.files.now) same c.first_style.ensures.first c.first_databases.ensures.first;
      cited = search rules;
      keys = subst HaveKeys (sym same) (search rules);
      named = record {
        style = c.first_style.ensures.named (search rules) (search rules);
        databases = c.first_databases.ensures.named (search rules) (search rules);
      };
      inputs = subst HaveFileNames (sym same) (search rules);
    }

-- an input is taken
pub take_aux-loop-item-preserved-in-Input : goal.take_aux-loop-item-preserved-in-Input
take_aux-loop-item-preserved-in-Input g t c =
    let items : into_iter_items c.loop-item.item-iterator ≡ Input c.in-Input.input c.in-Input.field-1 ∷ into_iter_items c.next.new.self =
    c.in-Some-item.ensures.steps.0 ∙ ap (λ i. i ∷ into_iter_items c.next.new.self) c.in-Input.is in
    let rose = c.loop-item.invariant.count in
    let more = c.in_ok-requests-in-Input.ensures.reads.count in
    record {
      told = c.in_ok-requests-in-Input.ensures.reads.told ∙ c.loop-item.invariant.told;
      count = omega arith;
      left = left_next (g.F.Files.told c.args.files.now) _ c.args.levels c.args.before c.args.aux _ _ c.in-Input.input c.in-Input.field-1 c.loop-item.requests c.in_ok-requests-in-Input.requests
          items c.loop-item.invariant.told c.loop-item.invariant.left c.in_ok-requests-in-Input.ensures.reads.gives;
      begun = begun_next (g.F.Files.told c.args.files.now) _ _ c.args.levels _ _ c.in-Input.input c.in-Input.field-1 c.loop-item.requests c.in_ok-requests-in-Input.requests _ _ _
          items c.loop-item.invariant.told c.loop-item.invariant.begun c.in_ok-requests-in-Input.ensures.reads.gives c.in_ok-requests-in-Input.ensures.begun;
      cited = c.in_ok-requests-in-Input.ensures.cited;
      keys = (subst HaveKeys items c.loop-item.invariant.keys).1;
      named = c.in_ok-requests-in-Input.ensures.named;
      inputs = (subst HaveFileNames items c.loop-item.invariant.inputs).1;
    }

-- an input isn't taken
pub take_aux-returns-in_err-requests-in-Input-clause-begun : goal.take_aux-returns-in_err-requests-in-Input-clause-begun
take_aux-returns-in_err-requests-in-Input-clause-begun g t c =
    let items : into_iter_items c.loop-item.item-iterator ≡ Input c.in-Input.input c.in-Input.field-1 ∷ into_iter_items c.next.new.self =
    c.in-Some-item.ensures.steps.0 ∙ ap (λ i. i ∷ into_iter_items c.next.new.self) c.in-Input.is in
    let fine : fault_after c.args.levels c.args.before c.args.aux ≡ None = sym c.fault_after.ensures ∙ none_of c.fault_after.result c.in_default.not-Some in
    let p = err_from_is_err_and c.from_residual-in_err-requests-in-Input.result c.from_residual-in_err-requests-in-Input.ensures.1 in
    rw (p.1, p.2)
    (items_taken_begun (g.F.Files.told c.args.files.now) c.args.levels c.args.before c.args.aux (g.F.Files.begun c.args.files.now) _ (Err c.in_err-requests-in-Input.field-0.0) fine
    (begun_stopped (g.F.Files.told c.args.files.now) _ (λ t. items_begun (take_input c.args.levels t) (input_begun c.args.levels t) c.args.aux.items (with_names c.args.aux c.args.before))
    c.args.levels _ _ c.in-Input.input c.in-Input.field-1 c.loop-item.requests (g.F.Files.begun c.args.files.now) _ _ c.in_err-requests-in-Input.field-0.0
    items c.loop-item.invariant.told c.loop-item.invariant.begun c.in_err-requests-in-Input.ensures.reads.gives c.in_err-requests-in-Input.ensures.begun))

-- memory is wanting for a citation
pub take_aux-returns-in_err-push-in_default-item : goal.take_aux-returns-in_err-push-in_default-item
take_aux-returns-in_err-push-in_default-item g t c =
    let fine : fault_after c.args.levels c.args.before c.args.aux ≡ None = sym c.fault_after.ensures ∙ none_of c.fault_after.result c.in_default.not-Some in
    let p = err_from_is_err_and c.from_residual-in_err-push-in_default-item.result c.from_residual-in_err-push-in_default-item.ensures.1 in
    rw (p.1, p.2)
    (record {
      reads = reads_wanting Requests g.F.Files c.args.files.now c.loop-item.files (λ t. take_aux c.args.levels (take_input c.args.levels t) c.args.name.now c.args.before c.args.aux)
          c.loop-item.invariant.told c.loop-item.invariant.count;
      begun = items_taken_begun (g.F.Files.told c.args.files.now) c.args.levels c.args.before c.args.aux (g.F.Files.begun c.args.files.now) (g.F.Files.begun c.loop-item.files) (Err NoMemory) fine
          (so_far_wanting Requests (g.F.Files.told c.args.files.now)
          (λ t. items_begun (take_input c.args.levels t) (input_begun c.args.levels t) c.args.aux.items (with_names c.args.aux c.args.before)) _ (g.F.Files.begun c.args.files.now) (g.F.Files.begun c.loop-item.files) c.loop-item.invariant.begun);
      cited = tt;
      named = tt;
    })

-- all items are taken
pub take_aux-returns-clause-begun : goal.take_aux-returns-clause-begun
take_aux-returns-clause-begun g t c =
    let fine : fault_after c.args.levels c.args.before c.args.aux ≡ None = sym c.fault_after.ensures ∙ none_of c.fault_after.result c.in_default.not-Some in
    let none : into_iter_items c.loop-item.item-iterator ≡ [] = nil_from_length _ (sym c.loop-item.item-iterator.rest.ok.0 ∙ c.in-None.ensures.steps.0) in
    items_taken_begun (g.F.Files.told c.args.files.now) c.args.levels c.args.before c.args.aux (g.F.Files.begun c.args.files.now) (g.F.Files.begun c.loop-item.files) (Ok c.loop-item.requests) fine
    (begun_ended (g.F.Files.told c.args.files.now) (λ t. items_begun (take_input c.args.levels t) (input_begun c.args.levels t) c.args.aux.items (with_names c.args.aux c.args.before))
    c.args.levels _ c.loop-item.requests (g.F.Files.begun c.args.files.now) (g.F.Files.begun c.loop-item.files) (Ok c.loop-item.requests) none c.loop-item.invariant.begun)

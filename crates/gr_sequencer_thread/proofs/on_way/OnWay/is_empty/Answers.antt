use Rattle.gr_model.proofs.Common.{rules, ◌≡◌, ◌∙◌, ◌<◌, List, [], ap, arith, get_or, length, refl, subst, sym, ⊎_elim, cases_eq, get_or-map}
use Rattle.gr_clocks.specs.ClockedAccess.{ClockedAccess}
use Rattle.gr_threads.specs.Given.{accesses_in}
use Rattle.gr_sequencer_thread.proofs.on_way.OnWay.is_empty.Goals as goal

pub loop-worker-preserved : goal.loop-worker-preserved
loop-worker-preserved g c k d lt =
    let ways = c.self.inside.ways.items in
    let at = c.loop-worker.worker in
    let len : length ways ≡ c.self.inside.ways.len = search rules in
    let within : at < length ways = omega (arith, c.loop-worker-test.true, c.len-worker-end.ensures, len) in
    ⊎_elim
    (λ (same : k ≡ at).
    ap (λ n. get_or c.args.self.now n d) same
    ∙ subst (λ (v : List (List ClockedAccess)). get_or v at d ≡ []) c.self.view_is
    (get_or-map accesses_in ways at c.index.result.now d within ∙ (ap accesses_in (sym c.index.ensures ∙ c.if-not-is_empty.ensures refl))))
    (λ apart. c.loop-worker.invariant k d (omega (arith, lt, apart)))
    (cases_eq k at)

use Rattle.gr_model.proofs.Common.{◌≡◌, ◌∙◌, ◌++◌, ◌∷◌, [], List, ap, arith, length, length-append, subst, sym, All, map-append, All-push}
use Rattle.gr_clocks.specs.ClockedAccess.{ClockedAccess}
use Rattle.gr_route.specs.declared.work.Work.{Work}
use Rattle.gr_threads.specs.Given.{accesses_in}
use Rattle.gr_sequencer_thread.specs.Feeds.{accesses_on_way}
use Rattle.gr_sequencer_thread.proofs.on_way.OnWay.new.Goals as goal

pub loop-preserved : goal.loop-preserved
loop-preserved g c =
    let was = c.loop.ways.items in
    let way = c.new.result in
    let now : c.push.new.self.items ≡ was ++ way ∷ [] = c.in_ok-push.ensures.items in
    let none : accesses_in way ≡ [] = ap accesses_in c.new.ensures in (
      ap length now ∙ (let n = length-append was (way ∷ []) in let count = c.loop.invariant.0 in omega (arith, n, count)),
      subst (λ (ws : List (List (Work g.row.A.Denot))). All (λ (l : List ClockedAccess). l ≡ []) (accesses_on_way ws)) (sym now)
          (subst (All (λ (l : List ClockedAccess). l ≡ [])) (sym (map-append accesses_in was (way ∷ [])))
          (All-push (λ (l : List ClockedAccess). l ≡ []) (accesses_on_way was) (accesses_in way) c.loop.invariant.1 none)),
    )

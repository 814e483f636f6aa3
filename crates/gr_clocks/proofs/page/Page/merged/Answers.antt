use Rattle.gr_model.proofs.Common.{rules, arith, ◌≡◌, ◌∙◌, [], get_or, get_or_past, get_or_read}
use Rattle.gr_clocks.specs.Blocks.{IsRowJoin}
use Rattle.gr_clocks.proofs.RowLemmas.{more_are_each}
use Rattle.gr_clocks.proofs.page.Page.merged.Goals as goal
use Rattle.gr_clocks.proofs.page.Page.merged.Goals.{in-None+in_ok-joined-in-None, in-Some+in_ok-joined-in-Some}

pub loop-group-preserved : goal.loop-group-preserved
loop-group-preserved g c =
    let at = c.loop-group.group in
    let others : c.deref.result.now ≡ c.args.other.now = c.deref.ensures.value ∙ c.other.view_is in
    let mine : c.index-mine.result.now ≡ get_or c.args.self.now at [] = rw (← c.self.view_is) (get_or_read c.self.inside.blocks.items at c.index-mine.result.now (omega arith) c.index-mine.ensures []) in
    let row : IsRowJoin (get_or c.args.self.now at []) (get_or c.args.other.now at []) c.match-get.joined =
    elim c.match-get.branch [
      | in-None+in_ok-joined-in-None w ↦
          rw (← others, get_or_past c.deref.result.now at [] w.in-None.ensures.lookup.3, ← mine, w.joined-is, w.in_ok-joined-in-None.ensures.copy) (record { counts = λ p. omega arith })
      | in-Some+in_ok-joined-in-Some w ↦ rw (← others, ← w.in-Some.ensures.lookup.3.1 [], ← mine, w.joined-is) w.in_ok-joined-in-Some.ensures.join
    ] in
    more_are_each c.loop-group.invariant (search rules) row

use Rattle.gr_model.proofs.Common.{◌≡◌, length, drop, rules, arith, take_at, same_from_all_zip}
use Rattle.gr_clocks.specs.Blocks.{IsRowJoin}
use Rattle.gr_clocks.proofs.BlockLemmas.{joined_block}
use Rattle.gr_clocks.proofs.block.Block.merged.Given as given
use Rattle.gr_clocks.proofs.block.Block.merged.Goals as goal

joined : (g : given.Over) (c : goal.After-max g) → IsRowJoin c.self.inside.counts.value.items c.other.inside.counts.value.items c.in_ok-counts.counts.value.items
joined g c =
    let copied : c.in_ok-joined.joined.items ≡ c.deref-mine.result.now.items = search (rules, same_from_all_zip) in
    let mine : c.deref_mut.result.now ≡ c.self.inside.counts.value.items = cc in
    let theirs : c.deref.result.now ≡ c.other.inside.counts.value.items = cc in
    let made : c.in_ok-counts.counts.value.items ≡ c.learn.new.mine = rw c.in_ok-counts.ensures.ok (take_at c.learn.new.mine (drop (length c.learn.new.mine) c.in_ok-joined.joined.items) c.in_ok-joined.joined.len (omega (arith, c.learn.ensures.size, c.deref_mut.ensures.len, c.in_ok-joined.joined.ok.0))) in
    rw (made, ← mine, ← theirs) c.learn.ensures.join

pub invariant_of-result : goal.invariant_of-result
invariant_of-result g c = rw c.max.ensures (joined_block c.self.invariant c.other.invariant (joined g c))

pub returns-clause-join : goal.returns-clause-join
returns-clause-join g c = rw (← c.self.view_is, ← c.other.view_is) (joined g c)

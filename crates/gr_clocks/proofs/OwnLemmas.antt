-- Clocks with one item's count apart: what they count, and what a join of two of them counts.
use Rattle.gr_model.proofs.Common.{◌≡◌, ◌≢◌, ◌⊎◌, ℕ, ◌+◌, max, refl, arith, nat_tests}
use Rattle.gr_model.specs.declared.event.ItemId.{ItemId}
use Rattle.gr_clocks.specs.Counts.{Counts, count_of, tick_at, CountSame, CountsOneMore, IsJoin}
use Rattle.gr_clocks.specs.Owned.{HasRoom, TicksOwner, with_count, IsOwn, IsRaisedTo}
use Rattle.gr_clocks.proofs.RowLemmas.{one_item, same_items, same_item_self}
use Rattle.gr_clocks.proofs.BlockLemmas.{with_same, with_other}

pub cases_item : (i j : ItemId) → (i ≡ j) ⊎ (i ≢ j)
cases_item i j = grind (arith, nat_tests, one_item i j)

pub not_ticked : (i j : ItemId) → i ≢ j → tick_at i j ≡ 0
not_ticked i j other = grind (arith, nat_tests, one_item i j)

-- a count that replaces an equal one changes nothing
pub with_own : (c : Counts) (i : ItemId) (n : ℕ) → n ≡ count_of c i → CountSame (with_count c i n) c
with_own c i n is j = grind (arith, with_same, with_other, cases_item i j)

-- one more event than counts that are shared
pub shared_tick : (mine base : Counts) (i : ItemId) (n : ℕ) → CountSame base mine → n ≡ count_of base i + 1 → CountsOneMore mine i (with_count base i n)
shared_tick mine base i n same count = record { counts = λ j. grind (arith, nat_tests, with_same, with_other, cases_item i j, same j) }

-- what is read at an item: its own count, or a count that is shared
pub ruleset own_reads = (with_same, with_other, same_items, same_item_self)

module _ {base : Counts} {i : ItemId} {n : ℕ} (own : IsOwn base i n) where
  -- where the count of a clock's item is put in, all is counted that the clock counts
  pub own_whole : {copy whole : Counts} → copy ≡ base → IsRaisedTo copy i n whole → CountSame whole (with_count base i n)
  own_whole copied raised j = grind (arith, with_same, with_other, cases_item i j, raised.item, raised.others j, own.above)

  -- the owner's count grows by one
  pub own_tick : TicksOwner (record { counts = with_count base i n; owner = i }) (record { counts = with_count base i (n + 1); owner = i })
  own_tick = record {
    owner = refl;
    tick = record { counts = λ k. grind (arith, nat_tests, with_same, with_other, cases_item i k) };
  }

  -- and is still one that a clock may have
  pub own_room : HasRoom (record { counts = with_count base i n; owner = i }) → IsOwn base i (n + 1)
  own_room room = record { above = omega (arith, own.above); limit = grind (arith, with_same, own.limit) }

  -- counts that learn what a clock counts: first those that it shares, and then its own
  pub join_with_own : {mine shared joined raised_join : Counts} → shared ≡ base → IsJoin mine shared joined → IsRaisedTo joined i n raised_join → IsJoin mine (with_count base i n) raised_join
  join_with_own {joined} is join raised = record {
    counts = λ j. grind (arith, with_same, with_other, cases_item i j, join.counts j, raised.item, raised.others j, own.above);
  }

  -- a clock whose shared counts learned what another clock counts
  pub own_join : {shared theirs joined : Counts} (count : ℕ) → shared ≡ base → IsJoin shared theirs joined → count ≡ max n (count_of joined i) → IsJoin (with_count base i n) theirs (with_count joined i count)
  own_join count is join is_count = record {
    counts = λ j. grind (arith, with_same, with_other, cases_item i j, join.counts j, own.above);
  }

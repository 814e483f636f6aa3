-- The clocks of one work-group: what its items keep, and what all of them count after a barrier.
use Rattle.gr_model.proofs.Common.{◌≡◌, ◌≢◌, ℕ, zero, suc, ◌+◌, ◌<◌, ◌≤◌, All, Bool, false, ◌||◌, List, length, get_or, set, refl, sym, ◌∙◌, ap, subst, arith, nat_tests, get_or_past, get_or_read, length-set, get_or-set_same, get_or-set_other, All-get_or}
use Rattle.gr_model.specs.declared.event.ItemId.{ItemId}
use Rattle.gr_clocks.specs.Counts.{Counts, count_of, tick_at, CountSame, CountsOneMore, IsJoin}
use Rattle.gr_clocks.specs.Owned.{OwnedClock, no_clock, HasRoom, TicksOwner, AreTicked, IsRaisedBy}
use Rattle.gr_clocks.specs.Groups.{item_of, greatest, GroupClocks, clock_in_group, Keeps, IsFirstLearned, IsGroup, IsFullClock, HasFullClock, TicksClock, TicksEach, IsNext, MergesFirst, Merges, AreRaised, met_count, IsMetBase}
use Rattle.gr_clocks.proofs.RowLemmas.{each_set, one_item}
use Rattle.gr_clocks.proofs.OwnLemmas.{not_ticked}

-- ---- the greatest of some numbers

pub greatest_above : (n : ℕ) (f : ℕ → ℕ) (k : ℕ) → k < n → f k ≤ greatest n f
greatest_above zero f k below = absurd (omega arith)
greatest_above (suc n) f k below = grind (arith, greatest_above n f k)

pub greatest_least : (n : ℕ) (f : ℕ → ℕ) (x : ℕ) → ((k : ℕ) → k < n → f k ≤ x) → greatest n f ≤ x
greatest_least zero f x all = omega arith
greatest_least (suc n) f x all = grind (arith, all n, greatest_least n f x (λ k below. all k (omega arith)))

-- ---- what a group keeps

keeps_tick : {met : Counts} {i : ItemId} {learned : Bool} {c after : OwnedClock} → Keeps met i learned c → after.owner ≡ i → CountsOneMore c.counts i after.counts → Keeps met i learned after
keeps_tick {i} keeps owner tick = record {
  owner = owner;
  least = λ j. omega (arith, keeps.least j, tick.counts j);
  most = λ off j other. omega (arith, keeps.most off j other, tick.counts j, not_ticked i j other);
}

keeps_next : {met : Counts} {i : ItemId} {learned : Bool} {c : OwnedClock} {has : Bool} {after : OwnedClock} → Keeps met i learned c → after.owner ≡ i → IsNext c.counts i has after.counts → Keeps met i (learned || has) after
keeps_next {i} {learned} {has} keeps owner next = record {
  owner = owner;
  least = λ j. omega (arith, keeps.least j, next.grown j);
  most = λ off. let none : (learned ≡ false) × (has ≡ false) = grind (arith, nat_tests) in (keeps_tick keeps owner (next.tick none.1)).most none.0;
}

module _ {number : ℕ} {met : Counts} {clocks : List OwnedClock} {learned : List Bool} (are : IsGroup number met clocks learned) where
  -- an item has another clock, and its mark may have changed
  group_with : (k : ℕ) (c : OwnedClock) (marks : List Bool) → length marks ≡ length learned → ((m : ℕ) → m ≢ k → get_or marks m false ≡ get_or learned m false) → k < length clocks → Keeps met (item_of number k) (get_or marks k false) c → IsGroup number met (set clocks k c) marks
  group_with k c marks count others there keeps =
      let size = length-set clocks k c in
      record {
        few = omega (arith, are.few, size);
        marks = omega (arith, count, are.marks, size);
        each = λ m below. each_set (λ q. Keeps met (item_of number q) (get_or marks q false)) no_clock clocks k c there keeps m (λ apart. rw (others m apart) (are.each m (omega (arith, below, size))));
      }

  pub group_next : (k : ℕ) (c : OwnedClock) (was has : Bool) → k < length clocks → was ≡ get_or learned k was → c.owner ≡ item_of number k → IsNext (get_or clocks k no_clock).counts (item_of number k) has c.counts → IsGroup number met (set clocks k c) (set learned k (was || has))
  group_next k c was has there reads owner next =
      let mark = was || has in
      let marked : get_or (set learned k mark) k false ≡ mark = get_or-set_same learned k mark false (omega (arith, are.marks)) in
      group_with k c (set learned k mark) (length-set learned k mark) (λ m apart. get_or-set_other learned k m mark false apart) there
      (rw marked (keeps_next {learned = was} {c = get_or clocks k no_clock} (rw (get_or_read learned k was (omega (arith, are.marks)) reads false) (are.each k there)) owner next))

  abbrev Whole : GroupClocks
  Whole = record { number = number; clocks = clocks }

  -- the clock of an item is its own
  pub own_clock : (k : ℕ) → k < length clocks → (get_or clocks k no_clock).owner ≡ item_of number k
  own_clock k there = (are.each k there).owner

  -- so it ticks with its owner
  own_ticks : (k : ℕ) (c : OwnedClock) → k < length clocks → TicksOwner (get_or clocks k no_clock) c → CountsOneMore (clock_in_group Whole k) (item_of number k) c.counts
  own_ticks k c there ticks = rw (own_clock k there) at ticks.tick

  ticked_keeps : (k : ℕ) (c : OwnedClock) → k < length clocks → TicksOwner (get_or clocks k no_clock) c → Keeps met (item_of number k) (get_or learned k false) c
  ticked_keeps k c there ticks = keeps_tick (are.each k there) (ticks.owner ∙ own_clock k there) (own_ticks k c there ticks)

  module _ (k : ℕ) {x : OwnedClock} (there : k < length clocks) (reads : x ≡ get_or clocks k x) where
    is_read : get_or clocks k no_clock ≡ x
    is_read = sym (get_or_read clocks k x there reads no_clock)

    pub owner_has_room : ¬ IsFullClock Whole k → HasRoom x
    owner_has_room room full = room (ap (count_of (get_or clocks k no_clock).counts) (sym (own_clock k there)) ∙ rw is_read full)

    pub group_ticked : {c : OwnedClock} → TicksOwner x c → IsGroup number met (set clocks k c) learned
    group_ticked {c} ticks = group_with k c learned refl (λ m apart. refl) there (ticked_keeps k c there (rw (← is_read) at ticks))

    pub ticks_clock : {c : OwnedClock} → TicksOwner x c → TicksClock Whole k (record { number = number; clocks = set clocks k c })
    ticks_clock {c} ticks =
        let same = get_or-set_same clocks k c no_clock there in
        record {
          group = rw same refl;
          tick = subst (λ (z : OwnedClock). CountsOneMore (clock_in_group Whole k) (item_of number k) z.counts) (sym same) (own_ticks k c there (rw (← is_read) at ticks));
        }

  -- all clocks tick
  pub all_have_room : ¬ HasFullClock Whole → (k : ℕ) → k < length clocks → HasRoom (get_or clocks k no_clock)
  all_have_room none k there full = none (k, there, ap (count_of (get_or clocks k no_clock).counts) (sym (own_clock k there)) ∙ full)

  module _ {after : List OwnedClock} (ticked : AreTicked clocks after) where
    pub all_ticked : IsGroup number met after learned
    all_ticked = record {
      few = omega (arith, are.few, ticked.size);
      marks = omega (arith, are.marks, ticked.size);
      each = λ k below. let there : k < length clocks = omega (arith, below, ticked.size) in ticked_keeps k _ there (ticked.each k there);
    }

    pub ticks_each : TicksEach Whole (record { number = number; clocks = after })
    ticks_each = record {
      same = record { number = refl; size = ticked.size };
      each = λ k there. own_ticks k _ there (ticked.each k there);
    }

  -- ---- what was met, and what items have learned since

  -- where none has learned anything
  pub merges_met : (base : Counts) → base ≡ met → All (λ b. b ≡ false) learned → Merges Whole base
  merges_met base is none = rw is (record {
    least = λ k j below other. omega (arith, (are.each k below).most (All-get_or (λ b. b ≡ false) learned k false (omega (arith, are.marks)) none) j other);
    most = λ j some. omega (arith, (are.each 0 some).least j, greatest_above (length clocks) (λ k. count_of (get_or clocks k no_clock).counts j) 0 some);
  })

  -- the first that has learned something counts what was met, and so what those before it count
  pub merges_from : {first : ℕ} {x : OwnedClock} {base : Counts} → IsFirstLearned learned first → x ≡ get_or clocks first x → CountSame base x.counts → MergesFirst met Whole (first + 1) base
  merges_from {first} {x} {base} mark reads counted =
      let there : first < length clocks = omega (arith, are.marks, mark.there) in
      let same : CountSame base (get_or clocks first no_clock).counts = rw (← get_or_read clocks first x there reads no_clock) counted in
      record {
        above = λ j. omega (arith, (are.each first there).least j, same j);
        least = λ k j below other. grind (arith, same j, (are.each first there).least j, λ (b : k < length clocks) (before : k < first). (are.each k b).most (mark.before k before) j other);
        most = λ j some. omega (arith, same j, greatest_above (length clocks) (λ k. count_of (get_or clocks k no_clock).counts j) first there);
      }

  pub merges_kept : {n : ℕ} {base : Counts} {b : Bool} → n < length clocks → b ≡ get_or learned n b → b ≡ false → MergesFirst met Whole n base → MergesFirst met Whole (n + 1) base
  merges_kept {n} {base} {b} there reads off first =
      let is : get_or learned n false ≡ false = sym (get_or_read learned n b (omega (arith, are.marks)) reads false) ∙ off in
      record {
        above = first.above;
        least = λ k j below other. grind (arith, first.least k j, (are.each n there).most is j, first.above j);
        most = first.most;
      }

  pub merges_more : {n : ℕ} {base : Counts} {x : OwnedClock} {more : Counts} → n < length clocks → x ≡ get_or clocks n x → IsJoin base x.counts more → MergesFirst met Whole n base → MergesFirst met Whole (n + 1) more
  merges_more {n} {base} {x} {more} there reads join first =
      let is = get_or_read clocks n x there reads no_clock in
      record {
        above = λ j. omega (arith, first.above j, join.counts j);
        least = λ k j below other. grind (arith, is, first.least k j, join.counts j);
        most = λ j some. grind (arith, is, join.counts j, first.most j some, greatest_above (length clocks) (λ k. count_of (get_or clocks k no_clock).counts j) n there);
      }

-- ---- the counts after the barrier

-- base has learned all that the clocks count, and then gets the raised counts of the group's own items
module _ {g : GroupClocks} {base : Counts} {counts : List ℕ} (some : 0 < length g.clocks) (merged : Merges g base) (raised : AreRaised g base (length g.clocks) counts) {behind : Counts} (is : IsRaisedBy base g.number counts behind) where
  abbrev Counted : ItemId → ℕ → ℕ
  Counted j k = count_of (clock_in_group g k) j + tick_at (item_of g.number k) j

  base_small : (j : ItemId) → count_of base j ≤ met_count g j
  base_small j =
      let up = greatest_least (length g.clocks) (λ k. count_of (clock_in_group g k) j) (met_count g j) (λ k within. omega (arith, greatest_above (length g.clocks) (Counted j) k within)) in
      omega (arith, merged.most j some, up)

  counted_small : (j : ItemId) (k : ℕ) → k < length g.clocks → Counted j k ≤ count_of behind j
  counted_small j k within =
      grind (arith, nat_tests, is.here j, is.others j, raised.each k within, merged.least k j within, one_item (item_of g.number k) j, not_ticked (item_of g.number k) j)

  behind_small : (j : ItemId) → count_of behind j ≤ met_count g j
  behind_small j =
      grind (arith, nat_tests, is.here j, is.others j, raised.each j.item, get_or_past counts j.item 0, raised.size, base_small j, greatest_above (length g.clocks) (Counted j) j.item, one_item (item_of g.number j.item) j)

  pub met_base : IsMetBase g behind
  met_base = record { counts = λ j. omega (arith, behind_small j, greatest_least (length g.clocks) (Counted j) (count_of behind j) (counted_small j)) }

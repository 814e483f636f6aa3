-- The clocks of items in a table: what is read, and what is written at an item or a group.
use Rattle.gr_model.proofs.Common.{◌≡◌, ◌≢◌, ℕ, suc, ◌<◌, ◌≤◌, All, List, [], ◌∷◌, ◌++◌, map, length, slice_index, get_or, set, refl, sym, ◌∙◌, ap, arith, get_or-set_at, length-map, length-set, length_push, map_push, map-set, get_or-set_same, get_or-set_other, get_or_read, get_or_push, get_or_append_left, ext_get_or, nil_from_length, map-set_same}
use Rattle.std.proofs.Math.ListN.{get_or-map}
use Rattle.gr_model.specs.declared.event.ItemId.{ItemId}
use Rattle.gr_model.specs.Prelude.{put, HasItem}
use Rattle.gr_model.proofs.PutLemmas.{map_put, put_other, put_same, puts_last, puts_more}
use Rattle.gr_clocks.specs.declared.clock.TheConstants.{LARGEST_COUNT}
use Rattle.gr_clocks.specs.Counts.{Counts, count_of, greatest_count, CountsOneMore, IsJoinOfAll}
use Rattle.gr_clocks.specs.Owned.{OwnedClock, no_clock}
use Rattle.gr_clocks.specs.Groups.{GroupClocks, no_group, with_clock, IsShared, IsSameGroup, MeetsEach, TicksEach}
use Rattle.gr_clocks.specs.Tables.{AddsItems, ClockTable, clock_at, group_at, table_of, AreGroups, JoinsGroup, TicksGroup, AreZero, TicksItem, PutsClock}
use Rattle.gr_clocks.proofs.RowLemmas.{AreEach, row_size, row_of_item, entry_same, entry_other}

-- groups that have their places for their numbers
numbered : (groups : List GroupClocks) (p : ℕ) → (get_or groups p no_group).number ≡ p → get_or groups p no_group ≡ group_at (table_of groups) p
numbered groups p is = let row = get_or-map (λ (g : GroupClocks). g.clocks) groups p no_group in λ d. record { number = is d; clocks = sym row d }

-- ---- the groups of a table

module _ (groups : List GroupClocks) {t : ClockTable} (are : AreGroups groups) (is : table_of groups ≡ t) where
  table_length : length groups ≡ length t
  table_length = rw (← is) (sym (length-map groups (λ g. g.clocks)))

  -- what is read of the group of an item
  pub item_group : (i : ItemId) {x : GroupClocks} → HasItem (map length t) i → x ≡ get_or groups i.group x → x ≡ group_at t i.group
  item_group i {x} has reads =
      let there : i.group < length groups = omega (arith, has.0, table_length, length-map t length) in
      rw (← is) (get_or_read groups i.group x there reads no_group ∙ are i.group there)

  -- a group is put in the place of another
  pub put_table : (p : ℕ) (y : GroupClocks) → table_of (set groups p y) ≡ set t p y.clocks
  put_table p y = rw (← is) (map-set (λ g. g.clocks) groups p y)

  -- a group is put there for the one with its number, of as many items
  module _ (g : ℕ) {y : GroupClocks} (there : g < length t) where
    met_shape : IsSameGroup (group_at t g) y → map length (table_of (set groups g y)) ≡ map length t
    met_shape same = rw (put_table g y) (map-set_same length t g y.clocks [] same.size)

    pub joins_group : MeetsEach (group_at t g) y → JoinsGroup t g (table_of (set groups g y))
    joins_group met = record {
      shape = met_shape met.same;
      counts = λ k j below.
          rw (put_table g y, clock_at, get_or-set_same t g y.clocks [] there, row_size t g) ((met.each k (omega (arith, below, row_size t g))).counts j);
      others = λ j other. grind (arith, put_table g y, get_or-set_other);
    }

    pub ticks_group : TicksEach (group_at t g) y → TicksGroup t g (table_of (set groups g y))
    ticks_group ticked = record {
      shape = met_shape ticked.same;
      items = λ k below.
          let same = ap (λ (row : List OwnedClock). (get_or row k no_clock).counts) (get_or-set_same t g y.clocks [] there) in
          rw (put_table g y) (record { counts = λ j. ap (λ (c : Counts). count_of c j) same ∙ (ticked.each k (omega (arith, below, row_size t g))).counts j });
      others = λ j other. grind (arith, put_table g y, get_or-set_other);
    }

  -- a group is put there that has another clock for one item
  module _ (i : ItemId) {x y : GroupClocks} (clock : OwnedClock) (has : HasItem (map length t) i) (reads : x ≡ get_or groups i.group x) (written : y ≡ with_clock x i.item clock) where
    written_is : y ≡ with_clock (group_at t i.group) i.item clock
    written_is = written ∙ ap (λ (g : GroupClocks). with_clock g i.item clock) (item_group i has reads)

    pub item_groups : AreGroups (set groups i.group y)
    item_groups q within =
        numbered (set groups i.group y) q (grind (arith, written_is, get_or-set_at, get_or-set_other, length-set groups i.group y, λ (below : q < length groups). ap (λ (g : GroupClocks). g.number) (are q below)))

    item_table : table_of (set groups i.group y) ≡ set t i.group (set (get_or t i.group []) i.item clock)
    item_table = put_table i.group y ∙ ap (λ (g : GroupClocks). set t i.group g.clocks) written_is

    pub puts_clock : PutsClock t i clock.counts (table_of (set groups i.group y))
    puts_clock =
        let there = row_of_item t i has in
        rw item_table (record {
          shape = map-set_same length t i.group _ [] (length-set (get_or t i.group []) i.item clock);
          item = ap (λ (c : OwnedClock). c.counts) (entry_same no_clock t i clock there.0 there.1);
          others = λ j other. ap (λ (c : OwnedClock). c.counts) (entry_other no_clock t i clock j there.0 (λ (same : i ≡ j). other (sym same)));
        })

    pub ticks_item : CountsOneMore (clock_at t i) i clock.counts → TicksItem t i (table_of (set groups i.group y))
    ticks_item tick = record { shape = puts_clock.shape; item = rw puts_clock.item tick; others = puts_clock.others }

-- where none of them is full, the greatest of their counts is not the largest there is
greatest_has_room : {X : Type 0} (clock : X → Counts) (theirs : List X) (i : ItemId) → All (λ x. count_of (clock x) i ≢ LARGEST_COUNT) theirs → greatest_count (map clock theirs) i ≢ LARGEST_COUNT
greatest_has_room clock [] i room full = absurd (omega (arith, full))
greatest_has_room clock (x ∷ theirs) i room full =
    grind (arith, room 0 x, greatest_has_room clock theirs i (λ k d below. room (suc k) d (omega (arith, below))))

-- where none is full, their join has room
pub join_has_room : {X : Type 0} (clock : X → Counts) (mine : Counts) (theirs : List X) (joined : Counts) (i : ItemId) → IsJoinOfAll mine (map clock theirs) joined → count_of mine i ≢ LARGEST_COUNT → All (λ x. count_of (clock x) i ≢ LARGEST_COUNT) theirs → count_of joined i ≢ LARGEST_COUNT
join_has_room clock mine theirs joined i join mine_room their_room full =
    grind (arith, join.counts i, greatest_has_room clock theirs i their_room)

-- ---- new clocks

-- groups that share a clock which has counted nothing
module _ (sizes : List ℕ) (zero : Counts) {groups : List GroupClocks} {n : ℕ} (all : n ≡ length sizes) (are : AreEach (λ p x. IsShared zero p (slice_index sizes p) x) no_group groups n) where
  zero_row : (p : ℕ) → p < length sizes → length (get_or (table_of groups) p []) ≡ slice_index sizes p
  zero_row p below = rw (get_or-map (λ (g : GroupClocks). g.clocks) groups p no_group) ((are.each p (omega (arith, all))).size)

  zero_sizes : map length (table_of groups) ≡ sizes
  zero_sizes =
      let whole : length (map length (table_of groups)) ≡ length sizes = length-map (table_of groups) length ∙ length-map groups (λ g. g.clocks) ∙ are.size ∙ all in
      ext_get_or 0 (map length (table_of groups)) sizes whole (λ p there. row_size (table_of groups) p ∙ zero_row p (omega (arith, whole)))

  pub zero_groups : AreGroups groups
  zero_groups p within = numbered groups p (are.each p (omega (arith, within, are.size))).number

  pub zero_table : ((j : ItemId) → count_of zero j ≡ 0) → AreZero sizes (table_of groups)
  zero_table nothing = record {
    shape = zero_sizes;
    clocks = λ i j has.
        let shared = are.each i.group (omega (arith, has.0, all)) in
        rw (clock_at, get_or-map (λ (g : GroupClocks). g.clocks) groups i.group no_group) (shared.each i.item (omega (arith, has.1, shared.size)) j ∙ nothing j);
  }

-- ---- a group gets its items

-- groups without items may come after the others, and then a group in its place
pub record Reaches (t : ClockTable) (group : ℕ) (groups : List GroupClocks) : Type 0 where
  pub are : AreGroups groups
  pub same : (row : List OwnedClock) → put [] (table_of groups) group row ≡ put [] t group row

pub reaches_more : {t : ClockTable} {group : ℕ} {groups more : List GroupClocks} (x : GroupClocks) → Reaches t group groups → length groups ≤ group → more ≡ groups ++ x ∷ [] → x.number ≡ length groups → length x.clocks ≡ 0 → Reaches t group more
reaches_more {t} {group} {groups} {more} x reaches below is number none = record {
  are = λ p within. numbered more p (grind (arith, get_or_push, get_or_append_left, length_push, λ (there : p < length groups). ap (λ (g : GroupClocks). g.number) (reaches.are p there)));
  same = puts_more [] (table_of groups) (table_of more) group x.clocks t reaches.same (omega (arith, length-map groups (λ (g : GroupClocks). g.clocks))) (nil_from_length x.clocks none) (rw is (map_push (λ (g : GroupClocks). g.clocks) groups x));
}

module _ {t : ClockTable} {group n : ℕ} {groups : List GroupClocks} {x : GroupClocks} {zero : Counts} (reaches : Reaches t group groups) (there : group < length groups) (shared : IsShared zero group n x) where
  added_table : table_of (set groups group x) ≡ put [] t group x.clocks
  added_table =
      map-set (λ (g : GroupClocks). g.clocks) groups group x ∙ puts_last [] (table_of groups) group x.clocks t reaches.same (omega (arith, length-map groups (λ (g : GroupClocks). g.clocks)))

  pub added_groups : AreGroups (set groups group x)
  added_groups p within =
      numbered (set groups group x) p (grind (arith, get_or-set_at, get_or-set_other, length-set groups group x, shared.number, λ (below : p < length groups). ap (λ (g : GroupClocks). g.number) (reaches.are p below)))

  pub adds_items : ((j : ItemId) → count_of zero j ≡ 0) → AddsItems t group n (table_of (set groups group x))
  adds_items nothing = rw added_table (record {
    shape = rw (← shared.size) (map_put length [] t group x.clocks);
    fresh = λ k j below. rw (clock_at, put_same [] t group x.clocks) (shared.each k (omega (arith, below, shared.size)) j ∙ nothing j);
    others = λ i apart. rw (clock_at, put_other [] t group x.clocks i.group apart) refl;
  })

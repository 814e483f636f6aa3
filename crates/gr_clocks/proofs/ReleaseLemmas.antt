-- What several releases left, in each memory.
use Rattle.gr_model.proofs.Common.{◌≡◌, ◌≢◌, ◌↔◌, ℕ, zero, suc, Some, slice_get, ◌<◌, ◌≤◌, max, ◌++◌, All, Any, Bool, false, List, [], ◌∷◌, map, length, get_or, refl, sym, ◌∙◌, ap, arith, get_or_default, get_or-map, length-map, All-tail}
use Rattle.gr_model.specs.declared.event.Space.{Space}
use Rattle.gr_model.specs.declared.event.Space.TheVariants.{Global, Local}
use Rattle.gr_model.specs.declared.event.ItemId.{ItemId}
use Rattle.gr_model.specs.Prelude.{memory_of}
use Rattle.gr_clocks.specs.declared.clock.TheConstants.{LARGEST_COUNT}
use Rattle.gr_clocks.specs.Counts.{Counts, count_of, greatest_count}
use Rattle.gr_clocks.specs.Groups.{IsNext}
use Rattle.gr_clocks.specs.Tables.{ClockTable, clock_at, IsTickOfJoin, LearnsAndTicks, PutsClock, TicksItem}
use Rattle.gr_clocks.specs.ItemClocks.{ItemClocks, ReleaseClock, Acquires, AreOfOneWord, AreSpent, Ticks, clocks_left}

-- ---- releases on words of one memory

module _ {X : Type 0} (release : X → ReleaseClock) where
  abbrev clocks : List X → List Counts
  clocks xs = map (λ x. (release x).clock) xs

  pub left_all : (m : Space) (xs : List X) → All (λ x. m ≡ memory_of (release x).word) xs → clocks_left m (map release xs) ≡ clocks xs
  left_all m [] all = refl
  left_all m (x ∷ xs) all = grind (arith, all 0 x, left_all m xs (All-tail (λ y. m ≡ memory_of (release y).word) x xs all))

  pub left_none : (m : Space) (xs : List X) → All (λ x. m ≢ memory_of (release x).word) xs → clocks_left m (map release xs) ≡ []
  left_none m [] all = refl
  left_none m (x ∷ xs) all = grind (arith, all 0 x, left_none m xs (All-tail (λ y. m ≢ memory_of (release y).word) x xs all))

  -- all are on the word of the first
  pub word_of_first : (xs : List X) (first : X) → slice_get xs 0 ≡ Some first → AreOfOneWord (map release xs) → All (λ x. (release x).word ≡ (release first).word) xs
  word_of_first [] first is one k d below = absurd (omega (arith, below))
  word_of_first (y ∷ xs) first is one zero d below = cc
  word_of_first (y ∷ xs) first is one (suc k) d below = grind (arith, one k (release d), get_or-map release xs k d (release d), length-map xs release)

  -- where none is spent, there is room in all
  pub all_have_room : (xs : List X) (i : ItemId) → ¬ Any (λ x. count_of (release x).clock i ≡ LARGEST_COUNT) xs → All (λ x. count_of (release x).clock i ≢ LARGEST_COUNT) xs
  all_have_room xs i none k d below full =
      none (k, get_or xs k d, below, get_or_default xs k _ d below, full)

  pub some_spent : (xs : List X) (i : ItemId) → Any (λ x. count_of (release x).clock i ≡ LARGEST_COUNT) xs ↔ AreSpent (map release xs) i
  some_spent xs i = (
    λ (k, x, below, at, full). (k, release x, omega (arith, below, length-map xs release), get_or-map release xs k x (release x) below ∙ ap release at, full),
    λ spent. from xs spent,
  )
    where
      from : (ys : List X) → AreSpent (map release ys) i → Any (λ x. count_of (release x).clock i ≡ LARGEST_COUNT) ys
      from [] (k, r, below, at, full) = absurd (omega (arith, below))
      from (y ∷ ys) (k, r, below, at, full) =
          let there : k < length (y ∷ ys) = omega (arith, below, length-map (y ∷ ys) release) in
          let x = get_or (y ∷ ys) k y in
          let is : r ≡ release x = sym at ∙ get_or-map release (y ∷ ys) k y r there in
          (k, x, there, get_or_default (y ∷ ys) k x y there, rw (← is) full)

-- ---- what releases count together in a memory

-- one release more, on a word of the memory or of the other
pub left_here : (m : Space) (releases : List ReleaseClock) (r : ReleaseClock) (j : ItemId) → m ≡ memory_of r.word → greatest_count (clocks_left m (releases ++ r ∷ [])) j ≡ max (greatest_count (clocks_left m releases) j) (count_of r.clock j)
left_here m [] r j same = grind arith
left_here m (x ∷ releases) r j same = grind (arith, left_here m releases r j same)

pub left_elsewhere : (m : Space) (releases : List ReleaseClock) (r : ReleaseClock) (j : ItemId) → m ≢ memory_of r.word → greatest_count (clocks_left m (releases ++ r ∷ [])) j ≡ greatest_count (clocks_left m releases) j
left_elsewhere m [] r j other = grind arith
left_elsewhere m (x ∷ releases) r j other = grind (arith, left_elsewhere m releases r j other)

-- they count together what one of them does
pub left_counted : (releases : List ReleaseClock) (j : ItemId) (k : ℕ) (r : ReleaseClock) → k < length releases → get_or releases k r ≡ r → count_of r.clock j ≤ greatest_count (clocks_left (memory_of r.word) releases) j
left_counted [] j k r below at = absurd (omega (arith, below))
left_counted (x ∷ releases) j zero r below at = grind arith
left_counted (x ∷ releases) j (suc k) r below at = grind (arith, left_counted releases j k r)

-- ---- an acquire, from what it does in each memory

tick_learns : {old new : ClockTable} {i : ItemId} → TicksItem old i new → LearnsAndTicks old i [] new
tick_learns ticks = record {
  shape = ticks.shape;
  item = record { counts = λ j. let is = ticks.item.counts j in omega (arith, is) };
  others = ticks.others;
}

-- an acquire that names no release
pub acquires_none : (old : ItemClocks) (i : ItemId) (releases : List ReleaseClock) (new : ItemClocks) → releases ≡ [] → Ticks old i new → Acquires old i releases new
acquires_none old i releases new none ticks = rw none (record { shape = ticks.shape; learns = λ m. tick_learns (ticks.ticks m) })

-- what holds in each of the two memories
pub each_memory : (P : Space → Type 0) → P Global → P Local → (m : Space) → P m
each_memory P global local Global = global
each_memory P global local Local = local

-- an item that gets the clock which has learned
pub learns : {old new : ClockTable} {i : ItemId} {clock : Counts} {theirs : List Counts} → PutsClock old i clock new → IsTickOfJoin (clock_at old i) theirs i clock → LearnsAndTicks old i theirs new
learns puts tick = record { shape = puts.shape; item = rw puts.item tick; others = puts.others }

-- a clock that learned nothing where there was nothing to learn
pub next_of_join : {mine after : Counts} {theirs : List Counts} {i : ItemId} {learned : Bool} → (learned ≡ false → theirs ≡ []) → IsTickOfJoin mine theirs i after → IsNext mine i learned after
next_of_join none tick = record {
  grown = λ j. omega (arith, tick.counts j);
  tick = λ off. record { counts = λ j. grind (arith, none off, tick.counts j) };
}

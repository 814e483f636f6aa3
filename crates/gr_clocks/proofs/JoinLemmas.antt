-- What a clock counts that learns from several others, one after another.
use Rattle.gr_model.proofs.Common.{◌≡◌, ℕ, ◌+◌, ◌<◌, max, List, [], ◌∷◌, ◌++◌, map, length, get_or, take, arith, map_more}
use Rattle.gr_model.specs.declared.event.ItemId.{ItemId}
use Rattle.gr_clocks.specs.Counts.{Counts, count_of, greatest_count, IsJoin, IsJoinOfAll}

-- one clock more
greatest_more : (clocks : List Counts) (c : Counts) (j : ItemId) → greatest_count (clocks ++ c ∷ []) j ≡ max (greatest_count clocks j) (count_of c j)
greatest_more [] c j = omega arith
greatest_more (x ∷ clocks) c j = let more = greatest_more clocks c j in omega (arith, more)

-- a clock that learned from none
pub joined_none : (mine : Counts) → IsJoinOfAll mine [] mine
joined_none mine = record { counts = λ j. omega arith }

-- a clock that learned from the first p, and then from the next
pub joined_more : {X : Type 0} (clock : X → Counts) (xs : List X) (p : ℕ) (x : X) (mine now more : Counts) → p < length xs → x ≡ get_or xs p x → IsJoinOfAll mine (map clock (take p xs)) now → IsJoin now (clock x) more → IsJoinOfAll mine (map clock (take (p + 1) xs)) more
joined_more clock xs p x mine now more below at join next = record {
  counts = λ j. grind (arith, map_more clock xs p x below, greatest_more (map clock (take p xs)) (clock x) j, join.counts j, next.counts j);
}

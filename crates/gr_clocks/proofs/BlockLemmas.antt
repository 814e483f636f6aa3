-- The counts of all items, as rows of one group each: what is joined and written.
use Rattle.gr_model.proofs.Common.{◌≡◌, ◌≢◌, ℕ, ◌<◌, ◌≤◌, max, List, [], ◌∷◌, ◌++◌, length, slice_index, get_or, replicate, ◌∙◌, arith, get_or_past, get_or_push, get_or_append_left, length_push, length-map, length-replicate, get_or-replicate, ext_get_or, All-get_or, All-from_get_or}
use Rattle.std.proofs.Math.ListN.{get_or-map}
use Rattle.gr_model.specs.declared.event.ItemId.{ItemId}
use Rattle.gr_model.proofs.PutLemmas.{put_other, put_same}
use Rattle.gr_clocks.specs.declared.clock.TheConstants.{LARGEST_COUNT}
use Rattle.gr_clocks.specs.Blocks.{IsBlock, IsRowJoin, IsRowWith}
use Rattle.gr_clocks.specs.Counts.{Counts, count_of, sizes_of, CountSame, IsZero}
use Rattle.gr_clocks.specs.Owned.{with_count}
use Rattle.gr_clocks.proofs.RowLemmas.{one_item}

-- ---- nothing is counted

pub zero_base : (sizes : List ℕ) (c : Counts) → length c ≡ length sizes → ((p : ℕ) → p < length sizes → get_or c p [] ≡ replicate (slice_index sizes p) 0) → IsZero sizes c
zero_base sizes c size rows = record {
  shape = ext_get_or 0 (sizes_of c) sizes (length-map c length ∙ size) (λ p there. grind (arith, rows p, length-map, get_or-map length c p [], length-replicate));
  zero = λ j. grind (arith, get_or-replicate, length-replicate, rows j.group, get_or_past);
}

-- ---- blocks

small_at : (row : List ℕ) (most p : ℕ) → IsBlock row most → slice_index row p ≤ most
small_at row most p block = grind (arith, All-get_or (λ (n : ℕ). n ≤ most) row p 0, get_or_past, block.below)

-- what is joined is not above the greater limit
pub joined_block : {mine theirs joined : List ℕ} {m n : ℕ} → IsBlock mine m → IsBlock theirs n → IsRowJoin mine theirs joined → IsBlock joined (max m n)
joined_block {mine} {theirs} {joined} {m} {n} first second join = record {
  below = All-from_get_or (λ (x : ℕ). x ≤ max m n) joined 0 (λ p there. omega (arith, join.counts p, small_at mine m p first, small_at theirs n p second));
  limit = omega (arith, first.limit, second.limit);
}

pub with_block : {mine changed : List ℕ} {m place count : ℕ} → IsBlock mine m → count ≤ LARGEST_COUNT → IsRowWith mine place count changed → IsBlock changed (max m count)
with_block {mine} {changed} {m} {place} {count} block small with = record {
  below = All-from_get_or (λ (x : ℕ). x ≤ max m count) changed 0 (λ p there. grind (arith, with.here, with.others p, small_at mine m p block));
  limit = omega (arith, block.limit);
}

-- an empty row after the others changes nothing
pub push_empty : (c : Counts) → CountSame (c ++ [] ∷ []) c
push_empty c j = grind (arith, get_or_push, get_or_append_left, get_or_past, length_push)

-- ---- one item's count in place of the one there

pub with_same : (c : Counts) (i : ItemId) (n : ℕ) → count_of (with_count c i n) i ≡ n
with_same c i n = grind (arith, put_same)

pub with_other : (c : Counts) (i : ItemId) (n : ℕ) (j : ItemId) → i ≢ j → count_of (with_count c i n) j ≡ count_of c j
with_other c i n j other = grind (arith, put_same, put_other, one_item i j)

-- Counts that no clock shares: what a tick writes, and what a group adds.
use Rattle.gr_model.proofs.Common.{◌≡◌, ℕ, ◌+◌, List, [], length, slice_index, get_or, set, replicate, ◌∙◌, ap, arith, nat_tests, get_or_past, get_or_read, get_or-replicate, length-replicate, length-set, map-set_same}
use Rattle.gr_model.specs.declared.event.ItemId.{ItemId}
use Rattle.gr_model.specs.Prelude.{put, HasItem}
use Rattle.gr_model.proofs.PutLemmas.{map_put, put_other, put_same}
use Rattle.gr_clocks.specs.Counts.{AddsCounts, Counts, sizes_of, IsTick}
use Rattle.gr_clocks.proofs.RowLemmas.{entry_other, entry_same, one_item, row_of_item, row_size}

-- one event more of an item
pub raised_row : (c : Counts) (i : ItemId) (row raised : List ℕ) → HasItem (sizes_of c) i → row ≡ get_or c i.group row → raised ≡ set row i.item (slice_index row i.item + 1) → IsTick c i (set c i.group raised)
raised_row c i row raised has reads is =
    let there = row_of_item c i has in
    let at : row ≡ get_or c i.group [] = get_or_read c i.group row there.0 reads [] in
    let written : raised ≡ set (get_or c i.group []) i.item (slice_index (get_or c i.group []) i.item + 1) = cc in
    rw written (record {
      shape = map-set_same length c i.group _ [] (length-set _ i.item _);
      counts = λ j. grind (arith, nat_tests, entry_same 0 c i, entry_other 0 c i, one_item i j);
    })

-- a group whose items have counted nothing
pub adds_counts : (c : Counts) (g n : ℕ) (row : List ℕ) (after : Counts) → slice_index (sizes_of c) g ≡ 0 → row ≡ replicate n 0 → after ≡ put [] c g row → AddsCounts c g n after
adds_counts c g n row after absent is_row is = record {
  shape = ap sizes_of is ∙ map_put length [] c g row ∙ ap (put 0 (sizes_of c) g) (ap length is_row ∙ length-replicate n 0);
  counts = λ j. grind (arith, put_same, put_other, get_or-replicate, get_or_past, length-replicate, row_size c g);
}

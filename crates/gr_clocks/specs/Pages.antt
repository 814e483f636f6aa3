-- The counts of all items in pages, each of so many groups.
use Rattle.std.specs.Prelude.{ℕ, ◌*◌, ◌/◌, ◌%◌, List, [], length, map, slice_index_or}
use Rattle.std.specs.List.{range_with_len}
use Rattle.gr_model.specs.declared.event.ItemId.{ItemId}
use Rattle.gr_clocks.specs.Blocks.{IsRowWithin}
use Rattle.gr_clocks.specs.Counts.{Counts}

-- the item in its page
abbrev pub in_page : ItemId → ItemId
in_page i = record { group = i.group % 256; item = i.item }

-- no count is above theirs
abbrev pub IsPageWithin : Counts → Counts → Type 0
IsPageWithin mine theirs = (p : ℕ) → IsRowWithin (slice_index_or mine p []) (slice_index_or theirs p [])

-- the page at a place, and that of a group
abbrev pub page_at : List Counts → ℕ → Counts
page_at pages place = slice_index_or pages place []

abbrev pub page_of : List Counts → ℕ → Counts
page_of pages g = page_at pages (g / 256)

-- the counts of a group's items
abbrev pub row_of : List Counts → ℕ → List ℕ
row_of pages g = slice_index_or (page_of pages g) (g % 256) []

-- the counts of all items
abbrev pub whole : List Counts → Counts
whole pages = map (row_of pages) (range_with_len 0 (256 * length pages))

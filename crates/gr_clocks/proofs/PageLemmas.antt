-- Counts in pages: what is read at an item, and what is written there.
use Rattle.gr_model.proofs.Common.{◌≡◌, ◌≢◌, ℕ, ◌+◌, ◌*◌, ◌/◌, ◌%◌, ◌<◌, ◌≤◌, List, [], ◌∷◌, ◌++◌, length, slice_index, get_or, set, ap, arith, get_or-set_at, get_or_past, get_or-set_other, get_or_push, get_or_append_left, length_push, get_or-map-range_with_len, length-map-range_with_len}
use Rattle.gr_model.specs.declared.event.ItemId.{ItemId}
use Rattle.gr_clocks.specs.Blocks.{IsRowWithin}
use Rattle.gr_clocks.specs.Counts.{Counts, CountSame, IsJoin, count_of}
use Rattle.gr_clocks.specs.Owned.{IsRaisedBy, IsRaisedTo}
use Rattle.gr_clocks.specs.Pages.{IsPageWithin, in_page, page_at, page_of, row_of, whole}
use Rattle.gr_clocks.proofs.RowLemmas.{one_item}

-- what is counted of an item is what its page counts
pub row_whole : (pages : List Counts) (g : ℕ) → get_or (whole pages) g [] ≡ row_of pages g
row_whole pages g =
    grind (arith, get_or-map-range_with_len (row_of pages) 0 (256 * length pages) g g [], length-map-range_with_len (row_of pages) 0 (256 * length pages), get_or_past)

pub count_whole : (pages : List Counts) (j : ItemId) → count_of (whole pages) j ≡ count_of (page_of pages j.group) (in_page j)
count_whole pages j = ap (λ (row : List ℕ). slice_index row j.item) (row_whole pages j.group)

-- nor has a group after the last page a row
pub row_past : (pages : List Counts) (g : ℕ) → length pages ≤ g / 256 → get_or (whole pages) g [] ≡ []
row_past pages g past = grind (arith, row_whole, get_or_past)

-- a group by its page and its place there
apart_in_page : (i j : ItemId) → i ≢ j → i.group / 256 ≡ j.group / 256 → in_page i ≢ in_page j
apart_in_page i j apart page same = grind (arith, one_item i j)

-- an empty page more
pub push_page : (pages : List Counts) (page : Counts) → ((i : ItemId) → count_of page i ≡ 0) → CountSame (whole (pages ++ page ∷ [])) (whole pages)
push_page pages page none j = grind (arith, count_whole, get_or_push, get_or_append_left, get_or_past, length_push, none (in_page j))

-- no pages count nothing
pub count_none : (j : ItemId) → count_of (whole []) j ≡ 0
count_none j = count_whole [] j

-- nor do those of a group after the last page
pub count_past : (pages : List Counts) (j : ItemId) → length pages ≤ j.group / 256 → count_of (whole pages) j ≡ 0
count_past pages j past = grind (arith, count_whole, get_or_past)

-- nor those of a group of which its page counts nothing
pub none_of : (pages : List Counts) (g : ℕ) (page : Counts) → page ≡ page_of pages g → ((i : ItemId) → i.group ≡ g % 256 → count_of page i ≡ 0) → (j : ItemId) → j.group ≡ g → count_of (whole pages) j ≡ 0
none_of pages g page is none j here = grind (arith, count_whole, none (in_page j))

pub raised_behind : (before pages : List Counts) (i : ItemId) (n : ℕ) (page : Counts) → CountSame (whole pages) (whole before) → i.group / 256 < length pages → IsRaisedTo (page_of pages i.group) (in_page i) n page → IsRaisedTo (whole before) i n (whole (set pages (i.group / 256) page))
raised_behind before pages i n page same there raised = record {
  item = grind (arith, count_whole, get_or-set_at, raised.item, same i);
  others = λ j apart. grind (arith, count_whole, get_or-set_at, get_or-set_other, raised.others (in_page j), same j, apart_in_page i j);
}

pub raised_all_behind : (before pages : List Counts) (g : ℕ) (row : List ℕ) (page : Counts) → CountSame (whole pages) (whole before) → g / 256 < length pages → IsRaisedBy (page_of pages g) (g % 256) row page → IsRaisedBy (whole before) g row (whole (set pages (g / 256) page))
raised_all_behind before pages g row page same there raised = record {
  here = λ j at. grind (arith, count_whole, get_or-set_at, raised.here (in_page j), same j);
  others = λ j apart. grind (arith, count_whole, get_or-set_at, get_or-set_other, raised.others (in_page j), same j);
}

-- a page that is joined with none
pub join_of_none : (mine : Counts) (theirs : List Counts) (place : ℕ) (joined : Counts) → length theirs ≤ place → joined ≡ mine → IsJoin mine (page_at theirs place) joined
join_of_none mine theirs place joined past is = record { counts = λ j. grind (arith, get_or_past) }

pub join_with_none : (mine : List Counts) (theirs : Counts) (place : ℕ) (joined : Counts) → length mine ≤ place → joined ≡ theirs → IsJoin (page_at mine place) theirs joined
join_with_none mine theirs place joined past is = record { counts = λ j. grind (arith, get_or_past) }

-- pages that are joined one by one
pub pages_joined_all : (mine theirs joined : List Counts) → length mine ≤ length joined → length theirs ≤ length joined → ((p : ℕ) → p < length joined → IsJoin (page_at mine p) (page_at theirs p) (page_at joined p)) → IsJoin (whole mine) (whole theirs) (whole joined)
pages_joined_all mine theirs joined all_mine all_theirs each = record {
  counts = λ j. grind (arith, count_whole, get_or_past, λ (below : j.group / 256 < length joined). (each (j.group / 256) below).counts (in_page j));
}

-- where no count is above theirs, theirs are the greater ones
pub join_of_greater : (mine theirs joined : Counts) → IsPageWithin mine theirs → joined ≡ theirs → IsJoin mine theirs joined
join_of_greater mine theirs joined within is = record { counts = λ j. grind (arith, within j.group j.item) }

pub join_of_lesser : (mine theirs joined : Counts) → IsPageWithin theirs mine → joined ≡ mine → IsJoin mine theirs joined
join_of_lesser mine theirs joined within is = record { counts = λ j. grind (arith, within j.group j.item) }

-- group by group
pub within_more : (mine theirs : Counts) (n : ℕ) → ((p : ℕ) → p < n → IsRowWithin (get_or mine p []) (get_or theirs p [])) → IsRowWithin (get_or mine n []) (get_or theirs n []) → (p : ℕ) → p < n + 1 → IsRowWithin (get_or mine p []) (get_or theirs p [])
within_more mine theirs n each last p below k = grind (arith, each p, last k)

pub within_all : (mine theirs : Counts) (n : ℕ) → length mine ≤ n → ((p : ℕ) → p < n → IsRowWithin (get_or mine p []) (get_or theirs p [])) → IsPageWithin mine theirs
within_all mine theirs n all each p k = grind (arith, each p, get_or_past)

-- the page of a join, by which of the two pages has the greater counts
pub ruleset page_joins = (join_of_none, join_with_none, join_of_greater, join_of_lesser)

-- The events of items in a table: what is read, and what is written at an item.
use Rattle.gr_model.proofs.Common.{common_steps, get_or-set_at, gets, drop_all, drop-drop, get_or-replicate, ◌≡◌, ℕ, zero, suc, ◌+◌, ◌-◌, ◌<◌, List, [], ◌∷◌, ◌++◌, map, length, get_or, set, slice_get, replicate, drop, take, refl, sym, ◌∙◌, ap, subst, arith, get_or_past, get_or_read, get_or-set_other, length-replicate, length-set, map-set_same}
use Rattle.gr_clocks.proofs.RowLemmas.{one_item, row_of_item, row_size}
use Rattle.gr_model.specs.declared.event.Event.{Event}
use Rattle.gr_model.specs.declared.event.EventId.{EventId}
use Rattle.gr_model.specs.declared.event.ItemId.{ItemId}
use Rattle.gr_model.specs.Prelude.{put, HasItem, Streams, event_at}
use Rattle.gr_model.proofs.PutLemmas.{map_put, put_other, put_same}
use Rattle.gr_clocks.specs.Counts.{Counts, count_of}
use Rattle.gr_clocks.specs.Tables.{item_of}
use Rattle.gr_windows.specs.Windows.{AddsItems, AreWaiting, Changes, DropsItems, IsEmpty, Table, window_of}

-- new lists, none of which has an event
abbrev pub none_of : ℕ → List (List Event)
none_of n = replicate n []

pub none_is : (n i : ℕ) → get_or (none_of n) i [] ≡ []
none_is n i = grind (arith, get_or-replicate, get_or_past, length-replicate)

sizes_none : (sizes : List ℕ) → map length (map none_of sizes) ≡ sizes
sizes_none [] = refl
sizes_none (n ∷ sizes) = grind (arith, length-replicate {A = List Event} n [], sizes_none sizes)

rows_none : (sizes : List ℕ) (g i : ℕ) → get_or (get_or (map none_of sizes) g []) i [] ≡ []
rows_none [] g i = refl
rows_none (n ∷ sizes) zero i = none_is n i
rows_none (n ∷ sizes) (suc g) i = rows_none sizes g i

pub new_empty : (sizes : List ℕ) (w : Table) → w ≡ map none_of sizes → IsEmpty sizes w
new_empty sizes w is = subst (IsEmpty sizes) (sym is) (record { shape = sizes_none sizes; none = λ i. rows_none sizes i.group i.item })

-- an item of a table, and the row that it is in
pub record IsRow (t : Table) (i : ItemId) (g : ℕ) (row : List (List Event)) : Type 0 where
  pub has : HasItem (map length t) i
  pub group : g ≡ i.group
  pub reads : row ≡ get_or t g row

module _ {t : Table} {i : ItemId} {g : ℕ} {row : List (List Event)} (at : IsRow t i g row) where
  pub row_there : g < length t
  row_there = grind (arith, row_of_item t i at.has, at.group)

  row_is : row ≡ get_or t i.group []
  row_is = get_or_read t g row row_there at.reads [] ∙ ap (λ n. get_or t n []) at.group

  pub item_there : i.item < length row
  item_there = grind (arith, row_of_item t i at.has, row_is)

  -- another list is written there
  pub set_changes : (events : List Event) (written : List (List Event)) → written ≡ set row i.item events → Changes t i events (set t g written)
  set_changes events written is = record {
    shape = map-set_same length t g written row (ap length is ∙ (length-set row i.item events ∙ ap length at.reads));
    item = grind (arith, get_or-set_at, row_there, item_there, at.group);
    others = λ j other. grind (arith, get_or-set_at, get_or-set_other, row_there, row_is, at.group, one_item i j);
  }

  pub window_is : get_or row i.item [] ≡ window_of t i
  window_is = ap (λ (r : List (List Event)). get_or r i.item []) row_is

-- the row of an item is written in its table
pub row_writes : {rows t : Table} {i : ItemId} {g : ℕ} {row : List (List Event)} → rows ≡ t → HasItem (map length t) i → g ≡ i.group → row ≡ get_or rows g row → (f : List Event → List Event) (written : List (List Event)) → written ≡ set row i.item (f (get_or row i.item [])) → Changes t i (f (window_of t i)) (set rows g written)
row_writes {rows} {t} {i} {g} {row} view has group reads f written is =
    let at : IsRow t i g row = record { has = has; group = group; reads = subst (λ (u : Table). row ≡ get_or u g row) view reads } in
    subst (λ (u : Table). Changes t i (f (window_of t i)) (set u g written)) (sym view)
    (set_changes at (f (window_of t i)) written (is ∙ ap (λ (l : List Event). set row i.item (f l)) (window_is at)))

pub one_drop_more : (old now : Table) (g n : ℕ) → DropsItems old g n now → (new : Table) → Changes now (item_of g n) (drop 1 (window_of now (item_of g n))) new → DropsItems old g (n + 1) new
one_drop_more old now g n drops new changes = record {
  shape = changes.shape ∙ drops.shape;
  items = λ k lt. grind (arith, changes.item, changes.others (item_of g k), drops.items k, drops.others (item_of g n));
  others = λ j beyond. grind (arith, changes.others j, drops.others j);
}

-- ---- the events that a clock does not count

pub drop_one : {X : Type 0} (n : ℕ) (xs : List X) → drop 1 (drop n xs) ≡ drop (suc n) xs
drop_one n xs = grind (arith, drop-drop 1 n xs)

pub drop_none : (n : ℕ) (events : List Event) → events ≡ [] → drop n events ≡ []
drop_none n events none = grind (arith, drop_all n events)

-- the first event that waits is the first that the clock does not count
pub first_waits : (s : Streams) (frontier : Counts) (w : Table) → AreWaiting s frontier w → (e : EventId) → e.index ≡ count_of frontier e.at → slice_get (window_of w e.at) 0 ≡ event_at s e
first_waits s frontier w waits e index = grind (arith, common_steps, gets, waits.each e.at)

pub take_pushed : (l : List Event) (x : Event) → take (length (l ++ x ∷ []) - 1) (l ++ x ∷ []) ≡ l
take_pushed l x = grind (arith, common_steps)

-- a group that had no items has some, of whom no event waits
pub adds_items : (w : Table) (g n : ℕ) (row : List (List Event)) (after : Table) → get_or (map length w) g 0 ≡ 0 → row ≡ none_of n → after ≡ put [] w g row → AddsItems w g n after
adds_items w g n row after absent is_row is = record {
  shape = ap (λ (t : Table). map length t) is ∙ map_put length [] w g row ∙ ap (put 0 (map length w) g) (ap length is_row ∙ length-replicate n []);
  each = λ i. grind (arith, put_same, put_other, none_is n i.item, get_or_past, row_size w g);
}

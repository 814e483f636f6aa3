-- The windows of a group's items: what is read, what is written at an item, and that those in which nothing waits can go.
use Rattle.gr_model.proofs.Common.{nat_tests, common_steps, get_or_append_left, get_or-append_right, ◌≡◌, ◌⊎◌, inr, ⊎_elim, ℕ, zero, suc, ◌+◌, ◌-◌, ◌<◌, ◌≤◌, ◌==◌, List, [], ◌∷◌, ◌++◌, length, get_or, set, drop, refl, sym, ◌∙◌, ap, arith, append-nil, sum_by, get_or_past, get_or_read, length-append, length-drop, length-replicate, length-set, set-append_left, set-get_or, get_or-le-sum_by, sum_by-cons, sum_by-set}
use Rattle.std.specs.Int.{from_bool}
use Rattle.gr_model.specs.declared.event.Event.{Event}
use Rattle.gr_windows.specs.Rows.{IsRowKept, begun, padded, waits}
use Rattle.gr_windows.proofs.WindowLemmas.{none_is, none_of}

-- what is read
pub padded_reads : (size : ℕ) (ws : List (List Event)) (i : ℕ) → get_or (padded size ws) i [] ≡ get_or ws i []
padded_reads size ws i = grind (arith, get_or_append_left, get_or-append_right ws (none_of (size - length ws)) (length ws) i [], none_is, get_or_past)

-- ---- in how many events wait

less_waits : (l rest : List Event) → length rest ≡ length l - 1 → waits rest + from_bool (length l == 1) ≡ waits l
less_waits l rest is = grind (arith, nat_tests)

waits_most : (vs : List (List Event)) → sum_by waits vs ≤ length vs
waits_most [] = omega arith
waits_most (v ∷ vs) = grind (arith, sum_by-cons waits v vs, waits_most vs)

none_waits : (vs : List (List Event)) (n : ℕ) → sum_by waits vs ≡ 0 → vs ++ none_of n ≡ none_of (length vs + n)
none_waits [] n none = ap none_of (omega arith)
none_waits ([] ∷ vs) n none = ap (λ t. [] ∷ t) (none_waits vs n (omega (arith, none, sum_by-cons waits [] vs))) ∙ (let e : suc (length vs + n) ≡ suc (length vs) + n = omega arith in ap none_of e)
none_waits ((x ∷ v) ∷ vs) n none = absurd (omega (arith, none, sum_by-cons waits (x ∷ v) vs))

-- windows where there were none are as many as the items, and in none of them events wait
none_sum : (n : ℕ) → sum_by waits (none_of n) ≡ 0
none_sum zero = refl
none_sum (suc n) = none_sum n

begun_as : (size : ℕ) (ws : List (List Event)) → (ws ≡ []) ⊎ (length ws ≡ size) → (length (begun size ws) ≡ size) × ((sum_by waits (begun size ws) ≡ sum_by waits ws) × (padded size (begun size ws) ≡ padded size ws))
begun_as size [] whole = (length-replicate size [], (none_sum size, grind (arith, common_steps, length-replicate {A = List Event}, append-nil)))
begun_as size (w ∷ ws) whole = (⊎_elim (λ (none : (w ∷ ws) ≡ []). cc) (λ (all : length (w ∷ ws) ≡ size). all) whole, (refl, refl))

module _ {size busy : ℕ} {ws : List (List Event)} (kept : IsRowKept size busy ws) {s : List (List Event)} (view : padded size ws ≡ s) where
  -- where there are no windows they can come
  module _ {now : List (List Event)} (is : now ≡ begun size ws) where
    begun_size : length now ≡ size
    begun_size = ap length is ∙ (begun_as size ws kept.whole).0

    begun_kept : IsRowKept size busy now
    begun_kept = record { few = omega (arith, begun_size); whole = inr begun_size; count = kept.count ∙ (sym (begun_as size ws kept.whole).1.0 ∙ ap (sum_by waits) (sym is)) }

    begun_view : padded size now ≡ s
    begun_view = ap (padded size) is ∙ ((begun_as size ws kept.whole).1.1 ∙ view)

    begun_there : {p item : ℕ} → p ≡ item → item < length s → p < length now
    begun_there {p} {item} same within =
        let whole : length (padded size now) ≡ size = length-append now (none_of (size - length now)) ∙ omega (arith, begun_size, length-replicate {A = List Event} (size - length now) []) in
        omega (arith, same, within, ap length begun_view, whole, begun_size)

  -- where no event waits they can go
  pub none_kept : busy ≡ 0 → padded size [] ≡ s
  none_kept idle =
      let whole : size - 0 ≡ length ws + (size - length ws) = omega (arith, kept.few) in
      ap none_of whole ∙ (sym (none_waits ws (size - length ws) (sym kept.count ∙ idle)) ∙ view)

  module _ {p item : ℕ} (same : p ≡ item) where
    module _ (there : p < length ws) {old : List Event} (reads : old ≡ get_or ws p old) where
      whole_there : length ws ≡ size
      whole_there = ⊎_elim (λ (none : ws ≡ []). absurd (omega (arith, there, ap length none))) (λ (all : length ws ≡ size). all) kept.whole

      old_is : old ≡ get_or ws p []
      old_is = get_or_read ws p old there reads []

      -- the same list at an item
      same_written : (new : List Event) → new ≡ old → set ws p new ≡ ws
      same_written new is = ap (set ws p) (is ∙ reads) ∙ set-get_or ws p old

      -- another list at an item
      pub written_at : (f : List Event → List Event) (new : List Event) → new ≡ f old → padded size (set ws p new) ≡ set s item (f (get_or s item []))
      written_at f new is = grind (arith, common_steps, length-set, set-append_left ws (none_of (size - length ws)) p new there, padded_reads size ws p, old_is)

      set_kept : (count : ℕ) (new : List Event) → count + waits old ≡ busy + waits new → IsRowKept size count (set ws p new)
      set_kept count new changes =
          let sum = sum_by-set waits ws p new [] there in record {
            few = omega (arith, kept.few, length-set ws p new);
            whole = inr (length-set ws p new ∙ whole_there);
            count = omega (arith, changes, sum, kept.count, ap waits old_is);
          }

      push_kept : (x : Event) (new : List Event) (b : ℕ) → new ≡ old ++ x ∷ [] → b ≡ from_bool (length old == 0) → IsRowKept size (busy + b) (set ws p new)
      push_kept x new b is first = set_kept (busy + b) new (grind (arith, nat_tests))

      push_fits : (x : Event) (b : ℕ) → b ≡ from_bool (length old == 0) → busy + b ≤ size
      push_fits x b first =
          let kept_then = push_kept x (old ++ x ∷ []) b refl first in
          omega (arith, kept_then.few, kept_then.count, waits_most (set ws p (old ++ x ∷ [])))

      pub less_fits : (b : ℕ) → b ≡ from_bool (length old == 1) → b ≤ busy
      less_fits b only =
          let less = less_waits old (drop 1 old) (length-drop 1 old) in
          omega (arith, less, only, kept.count, get_or-le-sum_by waits ws p [] there, ap waits old_is)

      pub less_kept : (new : List Event) (b : ℕ) → length new ≡ length old - 1 → b ≡ from_bool (length old == 1) → IsRowKept size (busy - b) (set ws p new)
      less_kept new b less only = set_kept (busy - b) new (omega (arith, less_fits b only, less_waits old new less, only))

-- an event is added, where the windows may first have come
module _ {size busy : ℕ} {ws : List (List Event)} (kept : IsRowKept size busy ws) {s : List (List Event)} (view : padded size ws ≡ s) {now : List (List Event)} (is : now ≡ begun size ws) {p item : ℕ} (same : p ≡ item) (within : item < length s) {old : List Event} (reads : old ≡ get_or now p old) where
  there : p < length now
  there = begun_there kept view is same within

  pub fits_more : (x : Event) (b : ℕ) → b ≡ from_bool (length old == 0) → busy + b ≤ size
  fits_more = push_fits (begun_kept kept view is) (begun_view kept view is) same there reads

  pub kept_more : (x : Event) (new : List Event) (b : ℕ) → new ≡ old ++ x ∷ [] → b ≡ from_bool (length old == 0) → IsRowKept size (busy + b) (set now p new)
  kept_more = push_kept (begun_kept kept view is) (begun_view kept view is) same there reads

  pub written_more : (x : Event) (new : List Event) → new ≡ old ++ x ∷ [] → padded size (set now p new) ≡ set s item (get_or s item [] ++ x ∷ [])
  written_more x = written_at (begun_kept kept view is) (begun_view kept view is) same there reads (λ l. l ++ x ∷ [])

  pub kept_still : (new : List Event) → new ≡ old → IsRowKept size busy (set now p new)
  kept_still new unchanged = rw (same_written (begun_kept kept view is) (begun_view kept view is) same there reads new unchanged) (begun_kept kept view is)

  pub written_still : (new : List Event) → new ≡ old → padded size (set now p new) ≡ s
  written_still new unchanged = ap (padded size) (same_written (begun_kept kept view is) (begun_view kept view is) same there reads new unchanged) ∙ begun_view kept view is

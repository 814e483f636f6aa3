-- Accesses of one tag and class, of each item the one with the greatest index.
use Rattle.gr_model.proofs.Common.{◌≡◌, ◌==◌, eqb, if◌then◌else◌, ◌⊎◌, ℕ, ◌≤◌, Bool, true, false, cond, Contains, List, [], ◌∷◌, ◌++◌, Option, None, Some, arith, map, refl, sym, ◌∙◌, inl, inr, ⊎_elim, find, nat_tests, Contains-append_left, Contains-push, Contains-push_cases, list_any_at}
use Rattle.std.specs.Map.{lookup}
use Rattle.std.specs.Option.{option_eq}
use Rattle.indexmap.specs.IndexMap.{insert_entry}
use Rattle.gr_explain.specs.Types.{EventId, ItemId, Class}
use Rattle.gr_model.specs.contracts.event.ItemIdPartialEq.TheImpl as equality
use Rattle.gr_model.specs.Prelude.{exempt}
use Rattle.gr_clocks.proofs.RowLemmas.{same_items}
use Rattle.gr_shadow.specs.Clashes.{ClockedAccess}
use Rattle.gr_shadow.proofs.KeepsLemmas.{Contains-first, Contains-rest, find_told}
use Rattle.gr_explain.proofs.Lists.{first_or_rest}
use Rattle.gr_explain.specs.Alike.{AlikeEvents, AreOfOnly, IsInPlaceOf, KeepsEvents, entry_event, event_clashes, greatest, is_sought, only_with}

-- ---- exempt in any groups

-- where accesses of two classes are exempt in two groups, they are exempt in any
pub none_clashes : (two : Bool) (c : Class) (y : ClockedAccess) (events : List EventId) → exempt c 0 y.class 1 ≡ true → find (is_sought two c y) events ≡ None
none_clashes two c y [] is = refl
none_clashes two c y (e ∷ events) is = grind (arith, none_clashes two c y events is)

-- none of these is of another group
none_of_others : (two : Bool) (c : Class) (y : ClockedAccess) (events : List EventId) → ((e : EventId) → Contains events e → e.at.group ≡ y.item.group) → two ≡ true → find (is_sought two c y) events ≡ None
none_of_others two c y [] of is = refl
none_of_others two c y (e ∷ events) of is = grind (arith, is, nat_tests, of e (Contains-first e events), none_of_others two c y events (λ d there. of d (Contains-rest e events d there)) is)

pub none_of_only : (two : Bool) (c : Class) (y : ClockedAccess) (events : List EventId) (only : Option ℕ) → AreOfOnly only events → option_eq eqb only (Some y.item.group) ≡ true → two ≡ true → find (is_sought two c y) events ≡ None
none_of_only two c y events None of same is = absurd cc
none_of_only two c y events (Some g) of same is = none_of_others two c y events (λ e there. let here = of e there in grind (arith, nat_tests, same, here)) is

-- one more event
pub only_kept : (only : Option ℕ) (old new : List EventId) (e : EventId) → AreOfOnly only old → ((d : EventId) → Contains new d → Contains (old ++ e ∷ []) d) → AreOfOnly (only_with only e.at.group) new
only_kept None old new e of each = tt
only_kept (Some g) old new e of each =
    elim (g == e.at.group) as (λ b. (g == e.at.group) ≡ b → AreOfOnly (if b then Some g else None) new) [
      | true ↦ λ same. λ d there. ⊎_elim (λ was. of d was) (λ (last : e ≡ d). grind (arith, nat_tests, same, last)) (Contains-push_cases old e d (each d there))
      | false ↦ λ _. tt
    ] refl

-- ---- which event is found

pub found_none : {X : Type 0} (f : X → Bool) (xs : List X) (x : X) → find f xs ≡ None → Contains xs x → f x ≡ true → ⊥
found_none f xs x none (k, lt, is) holds = grind (arith, list_any_at f xs k x lt, find_told f xs)

abbrev pub sought : AlikeEvents → ClockedAccess → Bool → Option EventId
sought l y two = find (is_sought two l.class y) l.events

-- ---- the greatest index of each item

pub in_place_of_itself : (e : EventId) → IsInPlaceOf e e
in_place_of_itself e = record { item = refl; index = omega arith }

pub in_place_of_both : (d e f : EventId) → IsInPlaceOf d e → IsInPlaceOf e f → IsInPlaceOf d f
in_place_of_both d e f p q = record { item = p.item ∙ q.item; index = (let a = p.index in let b = q.index in omega arith) }

abbrev pub events_of : List (ItemId × ℕ) → List EventId
events_of entries = map entry_event entries

abbrev pub same_key : ItemId → ItemId → Bool
same_key i j = (equality.eq-value).it i j

-- an index that may be kept of an item: it is not below the new one and the one that was kept, and is one of them
record IsGreatest (o : Option ℕ) (n v : ℕ) : Type 0 where
  new : n ≤ v
  old : (m : ℕ) → o ≡ Some m → m ≤ v
  either : (v ≡ n) ⊎ (o ≡ Some v)

greatest_is : (o : Option ℕ) (n : ℕ) → IsGreatest o n (greatest o n)
greatest_is None n = record { new = omega arith; old = λ m is. cc; either = inl refl }
greatest_is (Some k) n = record { new = grind (arith, nat_tests); old = λ m is. grind (arith, nat_tests); either = grind (arith, nat_tests) }

-- events after the same first one
keeps_cons : (x : EventId) (kept all : List EventId) → KeepsEvents kept all → KeepsEvents (x ∷ kept) (x ∷ all)
keeps_cons x kept all keeps = record {
  each = λ e there. ⊎_elim (λ is. rw (← is) (Contains-first x all)) (λ rest. Contains-rest x all e (keeps.each e rest)) (first_or_rest x kept e there);
  some = λ e there. ⊎_elim
      (λ is. (x, Contains-first x kept, rw (← is) (in_place_of_itself x)))
      (λ rest. let d = keeps.some e rest in (d.0, Contains-rest x kept d.0 d.1, d.2))
      (first_or_rest x all e there);
}

-- one of two events that represents both
keeps_one : (d e n : EventId) (events : List EventId) → IsInPlaceOf d e → IsInPlaceOf d n → (d ≡ n) ⊎ (d ≡ e) → KeepsEvents (d ∷ events) ((e ∷ events) ++ n ∷ [])
keeps_one d e n events for_old for_new either = record {
  each = λ f there. ⊎_elim
      (λ is. ⊎_elim (λ new. rw (← is, new) (Contains-push (e ∷ events) n)) (λ old. rw (← is, old) (Contains-first e (events ++ n ∷ []))) either)
      (λ rest. Contains-append_left (e ∷ events) (n ∷ []) f (Contains-rest e events f rest))
      (first_or_rest d events f there);
  some = λ f there. ⊎_elim
      (λ (old : Contains (e ∷ events) f). ⊎_elim (λ is. (d, Contains-first d events, rw (← is) for_old)) (λ rest. (f, Contains-rest d events f rest, in_place_of_itself f)) (first_or_rest e events f old))
      (λ is. (d, Contains-first d events, rw (← is) for_new))
      (Contains-push_cases (e ∷ events) n f there);
}

module _ (i : ItemId) (n v : ℕ) where
  abbrev new : EventId
  new = record { at = i; index = n }

  kept_in : (entries : List (ItemId × ℕ)) → IsGreatest (lookup (same_key i) entries) n v → KeepsEvents (events_of (insert_entry same_key entries i v)) (events_of entries ++ new ∷ [])
  kept_in [] is =
      let same : n ≡ v = ⊎_elim (λ (new : v ≡ n). sym new) (λ (no : None ≡ Some v). cc) is.either in
      rw (← same) (record { each = λ e there. there; some = λ e there. (e, there, in_place_of_itself e) })
  kept_in (x ∷ entries) is =
      elim (same_key i x.0) as (λ b. same_key i x.0 ≡ b → IsGreatest (cond b (Some x.1) (lookup (same_key i) entries)) n v → KeepsEvents (events_of (cond b ((x.0, v) ∷ entries) (x ∷ insert_entry same_key entries i v))) (events_of (x ∷ entries) ++ new ∷ [])) [
        | true ↦ λ t is.
            let at : i ≡ x.0 = same_items i x.0 t in
            keeps_one (entry_event (x.0, v)) (entry_event x) new (events_of entries) (record { item = refl; index = is.old x.1 refl }) (record { item = sym at; index = is.new })
            (⊎_elim (λ (same : v ≡ n). inl (λ j. record { at = sym at j; index = same j })) (λ (same : Some x.1 ≡ Some v). let one : x.1 ≡ v = cc in inr (λ j. record { at = x.0; index = sym one j })) is.either)
        | false ↦ λ _ is. keeps_cons (entry_event x) (events_of (insert_entry same_key entries i v)) (events_of entries ++ new ∷ []) (kept_in entries is)
      ] refl is

-- of the item of an access the greatest index is kept, and of each other item what was
pub inserted : (entries after : List (ItemId × ℕ)) (i : ItemId) (n v : ℕ) → v ≡ greatest (lookup (same_key i) entries) n → after ≡ insert_entry same_key entries i v → KeepsEvents (events_of after) (events_of entries ++ record { at = i; index = n } ∷ [])
inserted entries after i n v value is = rw (is, value) (kept_in i n (greatest (lookup (same_key i) entries) n) entries (greatest_is (lookup (same_key i) entries) n))

-- ---- clashes

-- where an access clashes with an event, it clashes with an event that represents it
pub later_clashes : (c : Class) (y : ClockedAccess) (d e : EventId) → IsInPlaceOf d e → event_clashes c y e ≡ true → event_clashes c y d ≡ true
later_clashes c y d e p h = grind (arith, nat_tests, p.item, p.index)

-- What is kept of the wanted events, where one more access comes, and along all grounded events.
use Rattle.gr_model.proofs.Common.{◌≡◌, ◌≢◌, ◌⊎◌, true, false, cond, Contains, List, [], ◌∷◌, ◌++◌, IsSome, Option, Some, None, slice_get, sym, ap, ◌∙◌, subst, arith, inl, inr, ⊎_elim, zero, suc, ℕ, cases_Bool, Contains-append_left, Contains-push, Contains-push_cases}
use Rattle.gr_explain.specs.Types.{EventId, Race, Access}
use Rattle.gr_model.specs.Prelude.{IsIn, IsLawful, IsWholeOrder, Streams, word_at}
use Rattle.gr_model.proofs.Cuts.{same_event as from_parts}
use Rattle.gr_model.proofs.Descent.{lawful_is_grounded}
use Rattle.gr_clocks.specs.ClockedAccess.{ClockedAccess, bare, clocked}
use Rattle.gr_closure.specs.Accesses.{IsAccess}
use Rattle.gr_closure.specs.AccessesAlong.{AreAccesses, of_none, of_access, of_other}
use Rattle.gr_shadow.proofs.KeepsLemmas.{Contains-first, Contains-rest}
use Rattle.gr_shadow.specs.Clashes.{event_of}
use Rattle.gr_explain.specs.Accesses.{AreBothKept, AreBothThere, AreThoseOf, AreWanted, IsKept, IsThatOf, access_at}
use Rattle.gr_explain.specs.Events.{Has, same_event}
use Rattle.gr_explain.proofs.Lists.{first_or_rest}
use Rattle.gr_explain.proofs.Sets.{event_from_equal, event_itself}

-- ---- one access more

module _ {Z : Type 0} (wanted : List EventId) (accesses : List ClockedAccess) (x : ClockedAccess) (old new : List (EventId × Access Z)) where
  -- of an event that is another one
  other_stays : (d : EventId) (o : Option (Access Z)) → event_of x ≢ d → IsThatOf accesses d o → IsThatOf (accesses ++ x ∷ []) d o
  other_stays d None other none = λ y there is. ⊎_elim (λ (was : Contains accesses y). none y was is) (λ (last : x ≡ y). other (ap event_of last ∙ is)) (Contains-push_cases accesses x y there)
  other_stays d (Some b) other that = (Contains-append_left accesses (x ∷ []) (clocked b) that.0, that.1)

  -- its event is wanted, and it is kept with a clock of its own
  pub wanted_added : (a : Access Z) → clocked a ≡ x → ((d : EventId) → access_at new d ≡ cond (same_event (event_of x) d) (Some a) (access_at old d)) → AreThoseOf wanted accesses old → AreThoseOf wanted (accesses ++ x ∷ []) new
  wanted_added a its update those d has = ⊎_elim
      (λ (is : same_event (event_of x) d ≡ true). rw (update d, is, its) (Contains-push accesses x, ap event_of its ∙ event_from_equal (event_of x) d is))
      (λ (fails : same_event (event_of x) d ≡ false). rw (update d, fails) (other_stays d (access_at old d) (λ same. grind (arith, event_itself)) (those d has)))
      (cases_Bool (same_event (event_of x) d))

  -- its event is not wanted, and nothing changes
  pub unwanted_added : ¬ Has wanted (event_of x) → new ≡ old → AreThoseOf wanted accesses old → AreThoseOf wanted (accesses ++ x ∷ []) new
  unwanted_added not_wanted same those d has = rw same (other_stays d (access_at old d) (λ is. not_wanted (subst (Has wanted) (sym is) has)) (those d has))

-- ---- the accesses along an order, and its events

module _ (s : Streams) where
  -- an access is that of an event of the order
  pub event_there : (order : List EventId) (accesses : List ClockedAccess) (x : ClockedAccess) → AreAccesses s order accesses → Contains accesses x → IsIn order (event_of x) × IsAccess s (event_of x) (bare x)
  event_there _ _ x of_none there = absurd (omega (arith, there.1))
  event_there _ _ x (of_access {e = e} {x = y} {order = order} {accesses = accesses} of_e rest) there = ⊎_elim
      (λ (is : y ≡ x).
      let of_x : IsAccess s e (bare x) = subst (λ (z : ClockedAccess). IsAccess s e (bare z)) is of_e in
      let same : e ≡ event_of x = sym (from_parts (event_of x) e of_x.item of_x.index) in
      ((0, ap Some same), subst (λ (d : EventId). IsAccess s d (bare x)) same of_x))
      (λ (later : Contains accesses x). let h = event_there order accesses x rest later in ((suc h.0.0, h.0.1), h.1))
      (first_or_rest y accesses x there)
  event_there _ _ x (of_other {e = e} {order = order} {accesses = accesses} none rest) there = let h = event_there order accesses x rest there in ((suc h.0.0, h.0.1), h.1)

  -- an event of the order has its access, unless it has no word
  pub access_there : (order : List EventId) (accesses : List ClockedAccess) (p : ℕ) (d : EventId) → AreAccesses s order accesses → slice_get order p ≡ Some d → (word_at s d ≡ None) ⊎ ((x : ClockedAccess) × Contains accesses x × (event_of x ≡ d))
  access_there _ _ p d of_none at = cc
  access_there _ _ zero d (of_access {e = e} {x = x} {order = order} {accesses = accesses} of_e rest) at =
      let same : e ≡ d = cc in
      inr (x, Contains-first x accesses, from_parts (event_of x) e of_e.item of_e.index ∙ same)
  access_there _ _ (suc p) d (of_access {e = e} {x = x} {order = order} {accesses = accesses} of_e rest) at = ⊎_elim (λ none. inl none) (λ h. inr (h.0, Contains-rest x accesses h.0 h.1, h.2)) (access_there order accesses p d rest at)
  access_there _ _ zero d (of_other {e = e} {order = order} {accesses = accesses} none rest) at = let same : e ≡ d = cc in inl (rw (← same) none)
  access_there _ _ (suc p) d (of_other {e = e} {order = order} {accesses = accesses} none rest) at = access_there order accesses p d rest at

-- along a lawful order, an access that is kept is that of its event, which is grounded
module _ {Z : Type 0} (s : Streams) (wanted : List EventId) (kept : List (EventId × Access Z)) (order : List EventId) (lawful : IsLawful s order) (accesses : List ClockedAccess) (are : AreAccesses s order accesses) where
  kept_of_some : (d : EventId) (a : Access Z) → IsThatOf accesses d (Some a) → IsKept s d (Some a)
  kept_of_some d a that =
      let h = event_there s order accesses (clocked a) are that.0 in
      let of : IsAccess s d (bare (clocked a)) = subst (λ (e : EventId). IsAccess s e (bare (clocked a))) that.1 h.1 in (
        lawful_is_grounded s order d lawful (subst (IsIn order) that.1 h.0),
        record { word = of.word; item = of.item; index = of.index; event = of.event; at_event = of.at_event; class = of.class; counts = of.counts },
      )

  kept_of_one : (d : EventId) (o : Option (Access Z)) → IsSome o → IsThatOf accesses d o → IsKept s d o
  kept_of_one d None there that = absurd cc
  kept_of_one d (Some a) there that = kept_of_some d a that

  pub there_kept : AreThoseOf wanted accesses kept → (r : Race) → AreWanted wanted r → AreBothThere kept r → AreBothKept s kept r
  there_kept those r both there = record {
    first = kept_of_one r.first (access_at kept r.first) there.first (those r.first both.first);
    second = kept_of_one r.second (access_at kept r.second) there.second (those r.second both.second);
  }

-- along all grounded events, what is kept of a wanted event is its access, and so of both events of a pair
module _ {Z : Type 0} (s : Streams) (wanted : List EventId) (kept : List (EventId × Access Z)) (order : List EventId) (whole : IsWholeOrder s order) (accesses : List ClockedAccess) (are : AreAccesses s order accesses) where
  kept_of : (d : EventId) (o : Option (Access Z)) → IsThatOf accesses d o → IsKept s d o
  kept_of d None none = λ grounded.
      let there = whole.whole d grounded in
      ⊎_elim (λ no_word. no_word) (λ h. absurd (none h.0 h.1 h.2)) (access_there s order accesses there.0 d are there.1)
  kept_of d (Some a) that = kept_of_some s wanted kept order whole.lawful accesses are d a that

  pub both_kept : AreThoseOf wanted accesses kept → (r : Race) → AreWanted wanted r → AreBothKept s kept r
  both_kept those r both = record { first = kept_of r.first (access_at kept r.first) (those r.first both.first); second = kept_of r.second (access_at kept r.second) (those r.second both.second) }

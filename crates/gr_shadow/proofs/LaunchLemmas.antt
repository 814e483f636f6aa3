-- Shadows of a launch, memory by memory.
use Rattle.gr_model.proofs.Common.{◌≡◌, ◌≢◌, ◌⊎◌, ◌↔◌, inl, inr, ℕ, ◌+◌, ◌<◌, Bool, true, false, List, [], ◌∷◌, ◌++◌, filter, length, get_or, slice_set, slice_get, Option, Result, IfOk, Some, None, refl, sym, ◌∙◌, ap, subst, arith, ⊎_elim, true≢false, list_any, cases_lt, eq-eqb, nat_tests, get_or-set_at, IfOk-weaker, get_or_append_left, get_or_push, get_or-set_other, length_push, length-set, gets, slice_get-get_or, slice_get_past, slice_get_within}
use Rattle.indexmap.proofs.SetLemmas.{filter_keep, filter_skip}
use Rattle.gr_model.specs.declared.event.Word.{Word}
use Rattle.gr_model.specs.declared.event.Word.TheVariants.{Global, Local}
use Rattle.gr_model.specs.declared.memory.Memory.{Memory}
use Rattle.gr_model.specs.Prelude.{SomePair}
use Rattle.gr_model.proofs.HitLaws.{IsHit-filter}
use Rattle.gr_model.proofs.Pairs.{PairIn, PairIn-from_some, SomeOf, SomePair-from_in}
use Rattle.gr_shadow.specs.Clashes.{ClockedAccess, IsHitIn, clashes}
use Rattle.gr_shadow.specs.Kept.{Kept, shadow_at}
use Rattle.gr_shadow.specs.Launches.{LaunchKept, StandsForLaunch, StandsForLocal, accesses_in, is_global, is_local_of}
use Rattle.gr_shadow.specs.StandsFor.{IsHitBy, StandsFor}
use Rattle.gr_shadow.proofs.ShadowLemmas.{hit_by_push, word_of_clash}

-- ---- no word is hit

none_answered : (kept : Kept) → list_any (λ e. e.1.answered) kept ≡ false → (w : Word) → (shadow_at kept w).answered ≡ false
none_answered [] none w = refl
none_answered (e ∷ kept) none w = grind (arith, none_answered kept)

pub none_hit : (accesses : List ClockedAccess) (kept : Kept) → StandsFor accesses kept → list_any (λ e. e.1.answered) kept ≡ false → (w : Word) → ¬ IsHitIn accesses w
none_hit accesses kept stands none w hit = true≢false (sym ((stands.answered w).1 hit) ∙ none_answered kept none w)

-- ---- the hits of some words

some_unfiltered : {X : Type 0} (keep : X → Bool) (P : X → Type 0) (xs : List X) → SomeOf P (filter keep xs) → SomeOf P xs
some_unfiltered keep P [] h = h
some_unfiltered keep P (x ∷ xs) h = grind (arith, some_unfiltered keep P xs)

pair_unfiltered : {X : Type 0} (keep : X → Bool) (R : X → X → Type 0) (xs : List X) → PairIn R (filter keep xs) → PairIn R xs
pair_unfiltered keep R [] h = h
pair_unfiltered keep R (x ∷ xs) h = grind (arith, some_unfiltered keep (R x) xs, pair_unfiltered keep R xs)

unfiltered : (keep : Word → Bool) (R : ClockedAccess → ClockedAccess → Type 0) (accesses : List ClockedAccess) → SomePair R (accesses_in keep accesses) → SomePair R accesses
unfiltered keep R accesses h = SomePair-from_in R accesses (pair_unfiltered (λ x. keep x.word) R accesses (PairIn-from_some R (accesses_in keep accesses) h))

hit_in_part : (keep : Word → Bool) (accesses : List ClockedAccess) (w : Word) → keep w ≡ true → IsHitIn accesses w → IsHitIn (accesses_in keep accesses) w
hit_in_part keep accesses w kept h = (IsHit-filter (λ x. x.word) clashes keep accesses w kept).0 h

no_hit : (accesses : List ClockedAccess) (w : Word) → accesses ≡ [] → ¬ IsHitIn accesses w
no_hit accesses w none h = elim (PairIn-from_some _ [] (rw none at h)) [ ]

-- ---- the word that an access answers

-- it is the access's
word_of_hit : (accesses : List ClockedAccess) (y : ClockedAccess) (w : Word) → IsHitBy accesses y w → y.word ≡ w
word_of_hit accesses y w by = grind (arith, hit_by_push accesses y w, word_of_clash accesses y w, by.now, by.before)

-- so the accesses to its memory give it
pub hit_by_part : (keep : Word → Bool) (accesses : List ClockedAccess) (y : ClockedAccess) → keep y.word ≡ true → (w : Word) → IsHitBy (accesses_in keep accesses) y w ↔ IsHitBy accesses y w
hit_by_part keep accesses y kept w =
    let more = filter_keep (λ x. keep x.word) accesses y kept in (
      λ by. record {
        now = unfiltered keep _ (accesses ++ y ∷ []) (rw more by.now);
        before = λ h. by.before (hit_in_part keep accesses w (rw (← word_of_hit (accesses_in keep accesses) y w by) kept) h);
      },
      λ by. record {
        now = rw (← more) (hit_in_part keep (accesses ++ y ∷ []) w (rw (← word_of_hit accesses y w by) kept) by.now);
        before = λ h. by.before (unfiltered keep _ accesses h);
      },
    )

pub answers_by_part : (keep : Word → Bool) (accesses : List ClockedAccess) (y : ClockedAccess) → keep y.word ≡ true → (r : Result (Option Word) Memory) → IfOk r (λ answer. (w : Word) → answer ≡ Some w ↔ IsHitBy (accesses_in keep accesses) y w) → IfOk r (λ answer. (w : Word) → answer ≡ Some w ↔ IsHitBy accesses y w)
answers_by_part keep accesses y kept r told = IfOk-weaker r _ _ (λ answer of_part w. grind (arith, hit_by_part keep accesses y kept w, of_part w)) told

-- what holds at each place holds with another element at one place, or with one more
at_each_set : {X : Type 0} (P : ℕ → Option X → Type 0) (xs : List X) (i : ℕ) (x : X) → i < length xs → P i (Some x) → (j : ℕ) → (j ≢ i → P j (slice_get xs j)) → P j (slice_get (slice_set xs i x) j)
at_each_set P xs i x there here j others = grind (arith, gets, get_or-set_at, get_or-set_other, length-set)

at_each_push : {X : Type 0} (P : ℕ → Option X → Type 0) (xs : List X) (x : X) → P (length xs) (Some x) → (j : ℕ) → P j (slice_get xs j) → P j (slice_get (xs ++ x ∷ []) j)
at_each_push P xs x here j other = grind (arith, gets, get_or_push, get_or_append_left, length_push)

pub local_more : {accesses : List ClockedAccess} (y : ClockedAccess) (group : ℕ) {old : LaunchKept} (o : Option Kept) → is_local_of group y.word ≡ true → group < length old.local → StandsForLaunch accesses old → StandsForLocal (accesses_in (is_local_of group) accesses ++ y ∷ []) (Some o)
    → StandsForLaunch (accesses ++ y ∷ []) (record { global = old.global; local = slice_set old.local group o })
local_more {accesses} y group {old} o is lt stands after = record {
  global = rw (filter_skip (λ x. is_global x.word) accesses y (grind arith)) stands.global;
  local = λ g. at_each_set (λ n. StandsForLocal (accesses_in (is_local_of n) (accesses ++ y ∷ []))) old.local group o lt (subst (λ (l : List ClockedAccess). StandsForLocal l (Some o)) (sym (filter_keep (λ x. is_local_of group x.word) accesses y is)) after) g
      (λ other. subst (λ (l : List ClockedAccess). StandsForLocal l (slice_get old.local g)) (sym (filter_skip (λ x. is_local_of g x.word) accesses y (grind (arith, nat_tests)))) (stands.local g));
}

-- ---- one group more, and another table of one

pub pushed : {accesses : List ClockedAccess} {old : LaunchKept} (kept : Kept) → StandsForLaunch accesses old → StandsFor [] kept → StandsForLaunch accesses (record { global = old.global; local = old.local ++ Some kept ∷ [] })
pushed {accesses} {old} kept stands fresh =
    let none = rw (slice_get_past old.local (length old.local) (omega arith)) at (stands.local (length old.local)) in
    record {
      global = stands.global;
      local = λ g. at_each_push (λ n. StandsForLocal (accesses_in (is_local_of n) accesses)) old.local (Some kept) (rw none fresh) g (stands.local g);
    }

pub local_put : {accesses : List ClockedAccess} {old : LaunchKept} (group : ℕ) (o : Option Kept) → group < length old.local → StandsForLaunch accesses old → StandsForLocal (accesses_in (is_local_of group) accesses) (Some o) → StandsForLaunch accesses (record { global = old.global; local = slice_set old.local group o })
local_put {accesses} {old} group o lt stands after = record {
  global = stands.global;
  local = λ g. at_each_set (λ n. StandsForLocal (accesses_in (is_local_of n) accesses)) old.local group o lt after g (λ other. stands.local g);
}

-- what is read at a group
pub local_at : {accesses : List ClockedAccess} {k : LaunchKept} (g : ℕ) (o : Option Kept) → g < length k.local → o ≡ get_or k.local g o → StandsForLaunch accesses k → StandsForLocal (accesses_in (is_local_of g) accesses) (Some o)
local_at {accesses} {k} g o lt reads stands = subst (StandsForLocal (accesses_in (is_local_of g) accesses)) (slice_get-get_or k.local g o lt ∙ ap Some (sym reads)) (stands.local g)

-- ---- the words that are hit

-- a global word that is hit, or a local one of a group below this
abbrev pub IsHitBelow : List ClockedAccess → ℕ → Word → Type 0
IsHitBelow accesses n w = IsHitIn (accesses_in is_global accesses) w ⊎ ((g : ℕ) × (g < n) × IsHitIn (accesses_in (is_local_of g) accesses) w)

pub below_none : (accesses : List ClockedAccess) (w : Word) → IsHitBelow accesses 0 w → IsHitIn (accesses_in is_global accesses) w
below_none accesses w h = grind arith

pub below_more : (accesses : List ClockedAccess) (n : ℕ) (w : Word) → IsHitBelow accesses (n + 1) w ↔ (IsHitBelow accesses n w ⊎ IsHitIn (accesses_in (is_local_of n) accesses) w)
below_more accesses n w = (
  ⊎_elim (λ a. inl (inl a)) (λ b.
      elim (cases_lt b.0 n) [
        | inl lt ↦ inl (inr (b.0, lt, b.2))
        | inr from ↦ inr (let here : b.0 ≡ n = omega (arith, b.1, from) in rw (← here) b.2)
      ]),
  ⊎_elim (⊎_elim (λ a. inl a) (λ b. inr (b.0, omega (arith, b.1), b.2))) (λ h. inr (n, omega arith, h)),
)

pub iff_more : {A B C D E : Type 0} → A ↔ (B ⊎ C) → B ↔ D → E ↔ (D ⊎ C) → A ↔ E
iff_more p q r = grind arith

-- where a local word is hit, something is kept of its group
hit_kept : {accesses : List ClockedAccess} {k : LaunchKept} (g v : ℕ) → StandsForLaunch accesses k → IsHitIn accesses (Local g v) → IsHitIn (accesses_in (is_local_of g) accesses) (Local g v) × (kept : Kept) × (slice_get k.local g ≡ Some (Some kept)) × StandsFor (accesses_in (is_local_of g) accesses) kept
hit_kept {accesses} {k} g v stands h = by_table (slice_get k.local g) refl
  where
    here : IsHitIn (accesses_in (is_local_of g) accesses) (Local g v)
    here = hit_in_part (is_local_of g) accesses (Local g v) (eq-eqb g g refl) h

    by_table : (o : Option (Option Kept)) → slice_get k.local g ≡ o → IsHitIn (accesses_in (is_local_of g) accesses) (Local g v) × (kept : Kept) × (slice_get k.local g ≡ Some (Some kept)) × StandsFor (accesses_in (is_local_of g) accesses) kept
    by_table None is = absurd (no_hit (accesses_in (is_local_of g) accesses) (Local g v) (rw is at (stands.local g)) here)
    by_table (Some None) is = absurd ((rw is at (stands.local g)) (Local g v) here)
    by_table (Some (Some kept)) is = (here, kept, is, rw is at (stands.local g))

pub hit_below : {accesses : List ClockedAccess} {k : LaunchKept} → StandsForLaunch accesses k → (w : Word) → IsHitBelow accesses (length k.local) w ↔ IsHitIn accesses w
hit_below {accesses} {k} stands w = (⊎_elim (λ a. unfiltered is_global _ accesses a) (λ b. unfiltered (is_local_of b.0) _ accesses b.2), by_word w)
  where
    by_word : (w : Word) → IsHitIn accesses w → IsHitBelow accesses (length k.local) w
    by_word (Global v) h = inl (hit_in_part is_global accesses (Global v) refl h)
    by_word (Local g v) h = let p = hit_kept g v stands h in inr (g, slice_get_within k.local g (Some p.1) p.2, p.0)

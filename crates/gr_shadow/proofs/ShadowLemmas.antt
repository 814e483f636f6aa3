-- What shadows say of the accesses that they represent.
use Rattle.gr_model.proofs.Common.{◌≡◌, ◌⊎◌, ◌↔◌, Bool, true, false, ◌&&◌, ◌||◌, IsTrue, List, [], ◌∷◌, ◌++◌, map, cond, refl, sym, ◌∙◌, arith, and_from, and_parts, or_parts, Decides-or, list_any, map_push}
use Rattle.indexmap.proofs.SetLemmas.{filter_keep, filter_skip}
use Rattle.gr_model.specs.declared.event.Word.{Word}
use Rattle.gr_model.specs.contracts.event.WordEq.TheImpl.Laws as equal
use Rattle.gr_model.specs.Prelude.{ClashesAt}
use Rattle.gr_model.proofs.Pairs.{SomeOf, SomeOf-place}
use Rattle.gr_model.proofs.WordLemmas.{same_from_equal}
use Rattle.gr_clocks.specs.ClockedAccess.{ClockedAccess}
use Rattle.gr_shadow.specs.Clashes.{clashes, IsHitIn}
use Rattle.gr_shadow.specs.Keeps.{Keeps, touch_of, touch_clashes}
use Rattle.gr_shadow.specs.Kept.{clashes_before, is_first_hit, IsShadowAfter, Kept, same_word, shadow_at, IsAfter}
use Rattle.gr_shadow.specs.StandsFor.{accesses_to, StandsFor, IsHitBy}
use Rattle.gr_shadow.proofs.HitLemmas.{SomePair-push}
use Rattle.gr_shadow.proofs.KeepsLemmas.{clashes_kept, Keeps-self, Keeps-trans, Keeps-append}

-- an access before y clashes with it, at the word w
abbrev pub ClashesBefore : List ClockedAccess → ClockedAccess → Word → Type 0
ClashesBefore xs y w = SomeOf (λ x. ClashesAt (λ x. x.word) clashes w x y) xs

pub hit_by_push : (xs : List ClockedAccess) (y : ClockedAccess) (w : Word) → IsHitIn (xs ++ y ∷ []) w ↔ (IsHitIn xs w ⊎ ClashesBefore xs y w)
hit_by_push xs y w = SomePair-push (ClashesAt (λ x. x.word) clashes w) xs y

-- the word of a clash is that of its later access
pub word_of_clash : (xs : List ClockedAccess) (y : ClockedAccess) (w : Word) → ClashesBefore xs y w → y.word ≡ w
word_of_clash xs y w h = (SomeOf-place (λ x. ClashesAt (λ x. x.word) clashes w x y) xs h).3.second

any_kept : {X Y : Type 0} (f : Y → Bool) (g : X → Y) (b : Bool) (x : X) (xs : List X) → list_any f (map g (cond b (x ∷ xs) xs)) ≡ ((b && f (g x)) || list_any f (map g xs))
any_kept f g b x xs = grind arith

-- what is kept of the accesses to a word says which of them clash with one more
clash_told : (xs : List ClockedAccess) (y : ClockedAccess) (w : Word) → y.word ≡ w → IsTrue (list_any (touch_clashes y) (map touch_of (accesses_to w xs))) ↔ ClashesBefore xs y w
clash_told [] y w at = grind arith
clash_told (x ∷ xs) y w at = rw (any_kept (touch_clashes y) touch_of (same_word x.word w) x (accesses_to w xs)) (Decides-or (same_word x.word w && clashes x y) _ first (clash_told xs y w at))
  where
    first : IsTrue (same_word x.word w && clashes x y) ↔ ClashesAt (λ x. x.word) clashes w x y
    first = (
      λ h. let p = and_parts (same_word x.word w) (clashes x y) h in record { first = same_from_equal x.word w p.0; second = at; clashes = p.1 },
      λ c. and_from (same_word x.word w) (clashes x y) (rw (c.first) (equal.laws-law.refl w)) c.clashes,
    )

pub clashes_before_told : (xs : List ClockedAccess) (kept : Kept) (y : ClockedAccess) (w : Word) → StandsFor xs kept → (shadow_at kept w).answered ≡ false → y.word ≡ w → IsTrue (clashes_before (shadow_at kept w) y) ↔ ClashesBefore xs y w
clashes_before_told xs kept y w stands not_yet at = grind (arith, clashes_kept y _ _ (stands.touches w not_yet), clash_told xs y w at)

-- shadows say which word becomes hit by one more access
pub answer_told : (xs : List ClockedAccess) (kept : Kept) (y : ClockedAccess) → StandsFor xs kept → (w : Word) → IsHitBy xs y w ↔ ((y.word ≡ w) × IsTrue (is_first_hit (shadow_at kept y.word) y))
answer_told xs kept y stands w =
    grind (arith, hit_by_push xs y w, stands.answered w, word_of_clash xs y w, clashes_before_told xs kept y w stands)

-- ---- what is kept after one more access represents the list with it

pub stands_after : (xs : List ClockedAccess) (old : Kept) (y : ClockedAccess) (new : Kept) → StandsFor xs old → IsAfter old y new → StandsFor (xs ++ y ∷ []) new
stands_after xs old y new stands after = record {
  touches = λ w. touched w (same_word y.word w) refl;
  answered = λ w. told w (same_word y.word w) refl;
}
  where
    here : (w : Word) → same_word y.word w ≡ true → IsShadowAfter (shadow_at old w) y (shadow_at new w)
    here w t = rw (← same_from_equal y.word w t) after.word

    touched : (w : Word) (b : Bool) → same_word y.word w ≡ b → (shadow_at new w).answered ≡ false → Keeps (shadow_at new w).touches (map touch_of (accesses_to w (xs ++ y ∷ [])))
    touched w true t not_yet =
        let step = here w t in
        rw (filter_keep (λ x. same_word x.word w) xs y t, map_push touch_of (accesses_to w xs) y) (Keeps-trans _ _ _ (step.touches not_yet) (Keeps-append _ _ _ _ (stands.touches w (or_parts _ _ (sym step.answered ∙ not_yet)).0) (Keeps-self (touch_of y ∷ []))))
    touched w false f not_yet =
        rw (filter_skip (λ x. same_word x.word w) xs y f, after.others w f) (stands.touches w (rw (after.others w f) at not_yet))

    told : (w : Word) (b : Bool) → same_word y.word w ≡ b → IsTrue (shadow_at new w).answered ↔ IsHitIn (xs ++ y ∷ []) w
    told w true t =
        grind (arith, hit_by_push xs y w, stands.answered w, (here w t).answered, clashes_before_told xs old y w stands, same_from_equal y.word w t)
    told w false f = grind (arith, hit_by_push xs y w, stands.answered w, after.others w f, word_of_clash xs y w, equal.laws-law.refl w)

-- What is so of each item of a list, where one item changed.
use Rattle.gr_model.proofs.Common.{◌≡◌, ◌∙◌, ℕ, ◌<◌, List, [], ap, length, get_or, map, sym, ⊎_elim, All, get_or-eq_default, cases_lt, length-map}

pub none_at : {X : Type 0} (ls : List (List X)) → All (λ l. l ≡ []) ls → (k : ℕ) → get_or ls k [] ≡ []
none_at ls none k = ⊎_elim (λ (below : k < length ls). none k [] below) (λ above. get_or-eq_default ls [] above) (cases_lt k (length ls))

-- lists that a function can't tell apart are of one length
pub as_many : {X Y : Type 0} (f : X → Y) (xs ys : List X) → map f xs ≡ map f ys → length xs ≡ length ys
as_many f xs ys same = sym (length-map xs f) ∙ (ap length same ∙ length-map ys f)

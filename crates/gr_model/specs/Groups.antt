-- Groups that come one after another: a group that had no items gets them.
-- Source: docs/MODEL.md, "Launch and shape".
use Rattle.std.specs.Prelude.{◌≡◌, ℕ, zero, suc, ◌+◌, ◌<◌, ◌≤◌, List, [], ◌∷◌, sum}
use Rattle.gr_model.specs.declared.limits.TheConstants.{MOST_GROUPS, MOST_ITEMS}
use Rattle.gr_model.specs.Shapes.{IsGroupSize}
use Rattle.gr_model.specs.Streams.{Streams, list_of, size_of}

-- the list with x at a place; where it is shorter, the default fills the places between
abbrev pub put : {X : Type 0} → X → List X → ℕ → X → List X
put none [] zero x = x ∷ []
put none [] (suc p) x = none ∷ put none [] p x
put none (y ∷ ys) zero x = x ∷ ys
put none (y ∷ ys) (suc p) x = y ∷ put none ys p x

-- group g has so many items, and of no group anything more has come
abbrev pub with_group : Streams → ℕ → ℕ → Streams
with_group s g n = record { sizes = put 0 s.sizes g n; lists = put [] s.lists g (list_of s g) }

-- group g has no items yet, and may have so many
pub record CanAdd (s : Streams) (g n : ℕ) : Type 0 where
  pub group : g < MOST_GROUPS
  pub none : size_of s g ≡ 0
  pub size : IsGroupSize n
  pub total : sum s.sizes + n ≤ MOST_ITEMS

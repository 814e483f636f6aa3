-- Where all that an event waits for is lower than the event, so is all that happens before it.
use Rattle.gr_model.proofs.Common.{◌≡◌, ℕ, zero, suc, ◌+◌, ◌-◌, ◌<◌, List, refl, ⊎_elim, arith, eq-or-lt_of_le, lt_trans}
use Rattle.gr_model.specs.Types.{Space, EventId}
use Rattle.gr_model.specs.Prelude.{Together, BasePair, HappensBefore, behind_barrier, by_pair, sequenced, synchronized, through, Mark, IsAt, IsIn, IsLawful, Streams, IsGrounded, Stage, Waits, for_meeting, for_previous, for_release}

-- the same instance, with the two barriers the other way round
pub together-swap : {s : Streams} {a : Mark} {e b : EventId} → Together s a e b → Together s a b e
together-swap t = record { group = t.group; instance = t.instance; convergent = t.convergent; first = t.second; second = t.first }

-- an event is below a level
abbrev pub IsBelow : (ℕ → EventId → Type 0) → ℕ → EventId → Type 0
IsBelow At p e = (q : ℕ) × (q < p) × At q e

-- what an event at a level waits for is at a lower one
abbrev pub Descends : Streams → (ℕ → EventId → Type 0) → Type 0
Descends s At = (p : ℕ) (e d : EventId) → At p e → Waits s e d → IsBelow At p d

module _ (s : Streams) (At : ℕ → EventId → Type 0) (down : Descends s At) where
  -- an event of the same item, n + 1 places before
  below_by : (n p : ℕ) (e f : EventId) → At p f → e.at ≡ f.at → suc (n + e.index) ≡ f.index → IsBelow At p e
  below_by zero p e f at item next = down p f e at (for_previous (record { item = item; next = omega arith }))
  below_by (suc n) p e f at item next =
      let d : EventId = record { at = f.at; index = suc (n + e.index) } in
      let there = down p f d at (for_previous (record { item = refl; next = omega arith })) in
      let far = below_by n there.0 e d there.2 item refl in (far.0, omega arith, far.2)

  pub below_in_item : (p : ℕ) (e f : EventId) → At p f → e.at ≡ f.at → e.index < f.index → IsBelow At p e
  below_in_item p e f at item below = below_by (f.index - suc e.index) p e f at item (omega arith)

  pub below_by_pair : (m : Space) (p : ℕ) (e f : EventId) → At p f → BasePair s m e f → IsBelow At p e
  below_by_pair m p e f at (sequenced item below there) = below_in_item p e f at item below
  below_by_pair m p e f at (synchronized match inclusive) = down p f e at (for_release match)
  below_by_pair m p e f at (behind_barrier a b flagged met item below there) =
      let next : EventId = record { at = f.at; index = suc b.index } in
      ⊎_elim
      (λ (same : suc b.index ≡ f.index). down p f e at (for_meeting a b (record { item = item; next = same }) (together-swap met)))
      (λ (lt : suc b.index < f.index).
      let there = below_in_item p next f at refl lt in
      let far = down there.0 next e there.2 (for_meeting a b (record { item = item; next = refl }) (together-swap met)) in
      (far.0, lt_trans far.1 there.1, far.2))
      (eq-or-lt_of_le below)

  pub below_before : (m : Space) (e f : EventId) → HappensBefore s m e f → (p : ℕ) → At p f → IsBelow At p e
  below_before m e f (by_pair pair) p at = below_by_pair m p e f at pair
  below_before m e f (through {f = d} before pair) p at = grind (arith, below_by_pair m p d f at pair, below_before m e d before)

-- the places of a lawful order, and the stages, descend
pub lawful_descends : (s : Streams) (order : List EventId) → IsLawful s order → Descends s (IsAt order)
lawful_descends s order l = l.after

pub stage_descends : (s : Streams) → Descends s (Stage s)
stage_descends s zero e d h w = absurd h
stage_descends s (suc n) e d h w = (n, omega arith, h.2 d w)

-- each event of a lawful order is reached, and so is each base pair's beginning
pub lawful_stage : (s : Streams) (order : List EventId) → IsLawful s order → (n p : ℕ) (e : EventId) → p < n → IsAt order p e → Stage s n e
lawful_stage s order l zero p e lt at = absurd (omega arith)
lawful_stage s order l (suc n) p e lt at =
    ((l.event p e at).0, (l.event p e at).1, λ d w. grind (arith, l.after p e d at w, lawful_stage s order l n))

pub lawful_is_grounded : (s : Streams) (order : List EventId) (e : EventId) → IsLawful s order → IsIn order e → IsGrounded s e
lawful_is_grounded s order e lawful there = (suc there.0, lawful_stage s order lawful (suc there.0) there.0 e (omega arith) there.1)

-- a stage has all of the one before it
pub stage_up : (s : Streams) (n : ℕ) (e : EventId) → Stage s n e → Stage s (suc n) e
stage_up s zero e h = absurd h
stage_up s (suc n) e h = (h.0, h.1, λ d w. stage_up s n d (h.2 d w))

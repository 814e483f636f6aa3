-- All groups' barriers: what a mark more and an ended group change, and the list of the divergences so far.
use Rattle.gr_model.proofs.Common.{◌≡◌, ℕ, ◌+◌, ◌<◌, ◌≤◌, true, false, List, [], ◌∷◌, ◌++◌, length, get_or, set, refl, sym, arith, get_or-set_at, get_or-set_same, get_or-set_other, length-set, get_or_read, get_or-map, length-map, map-set_same}
use Rattle.gr_model.specs.declared.event.ItemId.{ItemId}
use Rattle.gr_model.specs.declared.report.Divergence.{Divergence}
use Rattle.gr_model.specs.declared.report.DivergenceCause.{DivergenceCause}
use Rattle.gr_model.specs.Prelude.{Mark, IsDivergentOf, HasDivergenceCause, HasItem}
use Rattle.gr_model.proofs.Causes.{cause_diverges}
use Rattle.gr_barriers.specs.Arrived.{GroupMarks, sizes_of, group_of, marks_at, brought, Arrives, Ends, IsDivergence}
use Rattle.gr_barriers.specs.Listings.{AreListedBefore}
use Rattle.gr_barriers.specs.Summaries.{NobodyCame}
use Rattle.gr_barriers.proofs.Listing.{group_done, instance_with, instance_without}

-- ---- another group in its place

-- what is read of a group
pub group_read : {found v : List GroupMarks} → found ≡ v → (g : ℕ) (x : GroupMarks) → g < length v → x ≡ get_or found g x → x ≡ group_of v g
group_read {v = v} is g x there reads = get_or_read v g x there (rw is at reads) (record { marks = []; ended = false })

module _ (v : List GroupMarks) (g : ℕ) (there : g < length v) (y : GroupMarks) where
  set_sizes : length y.marks ≡ length (group_of v g).marks → sizes_of (set v g y) ≡ sizes_of v
  set_sizes same = map-set_same (λ (t : GroupMarks). length t.marks) v g y (record { marks = []; ended = false }) same

  -- a fact of each group that the new one shares stays
  set_keeps : {X : Type 0} (f : GroupMarks → X) → f y ≡ f (group_of v g) → (h : ℕ) → f (group_of (set v g y) h) ≡ f (group_of v h)
  set_keeps f same h = grind (arith, get_or-set_at, get_or-set_other)

pub group_ends : (v : List GroupMarks) (g : ℕ) (x y : GroupMarks) → g < length v → x ≡ get_or v g x → y ≡ record x { ended = true } → Ends v g (set v g y)
group_ends v g x y there reads ends =
    let is : x ≡ group_of v g = group_read refl g x there reads in
    record {
      sizes = set_sizes v g there y (grind arith);
      group = grind (arith, get_or-set_same);
      others = λ h other. grind (arith, get_or-set_other);
      marks = λ i. set_keeps v g there y (λ (t : GroupMarks). marks_at t i.item) (grind arith) i.group;
    }

one_item : (i j : ItemId) → i.group ≡ j.group → i.item ≡ j.item → j ≡ i
one_item i j group item = λ d. record { group = sym group d; item = sym item d }

pub item_arrives : (v : List GroupMarks) (i : ItemId) (mark : Mark) (x y : GroupMarks) → i.group < length v → i.item < length (group_of v i.group).marks → x ≡ get_or v i.group x → y ≡ record x { marks = set x.marks i.item (marks_at x i.item ++ mark ∷ []) } → Arrives v i mark (set v i.group y)
item_arrives v i mark x y there inside reads more =
    let is : x ≡ group_of v i.group = group_read refl i.group x there reads in
    record {
      sizes = set_sizes v i.group there y (grind (arith, length-set));
      item = grind (arith, get_or-set_same);
      others = λ j other. grind (arith, get_or-set_at, get_or-set_other, one_item i j);
      ended = set_keeps v i.group there y (λ (t : GroupMarks). t.ended) (grind arith);
    }

-- an item of the launch is in its group
pub item_there : (v : List GroupMarks) (i : ItemId) → HasItem (sizes_of v) i → (i.group < length v) × (i.item < length (group_of v i.group).marks)
item_there v i has =
    grind (arith, has.0, has.1, length-map v (λ (t : GroupMarks). length t.marks), get_or-map (λ (t : GroupMarks). length t.marks) v i.group (record { marks = []; ended = false }) 0)

-- ---- divergences, listed in order

module _ (v : List GroupMarks) (g k : ℕ) (ds : List Divergence) (listed : AreListedBefore (IsDivergence v) g k ds) where
  pub listed_skip : ¬ IsDivergentOf (group_of v g).ended (length (group_of v g).marks) (brought (group_of v g) k) → AreListedBefore (IsDivergence v) g (k + 1) ds
  listed_skip = instance_without (IsDivergence v) (λ h. (group_of v h).ended) (λ h. length (group_of v h).marks) (λ h. brought (group_of v h)) (λ d is. is.cause) g k ds listed

  pub listed_more : g < length v → (c : DivergenceCause) → HasDivergenceCause (group_of v g).ended (length (group_of v g).marks) (brought (group_of v g) k) c → AreListedBefore (IsDivergence v) g (k + 1) (ds ++ record { group = g; instance = k; cause = c } ∷ [])
  listed_more there c cause = instance_with (IsDivergence v) (λ h. (group_of v h).ended) (λ h. length (group_of v h).marks) (λ h. brought (group_of v h)) (λ d is. is.cause) g k ds listed c cause
      (record { group = there; divergent = cause_diverges (group_of v g).ended (length (group_of v g).marks) (brought (group_of v g) k) c cause; cause = cause })

  pub listed_turn : ((n : ℕ) → k ≤ n → NobodyCame (length (group_of v g).marks) (brought (group_of v g) n)) → AreListedBefore (IsDivergence v) (g + 1) 0 ds
  listed_turn = group_done (IsDivergence v) (λ h. (group_of v h).ended) (λ h. length (group_of v h).marks) (λ h. brought (group_of v h)) (λ d is. is.cause) g k ds listed

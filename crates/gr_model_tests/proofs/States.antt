-- What facts need of concrete states: clocks that have counted nothing, few accesses, few barriers, and one list.
use Rattle.gr_model.proofs.Common.{◌≡◌, ◌≢◌, ◌↔◌, ◌++◌, ℕ, zero, suc, ◌+◌, ◌<◌, Bool, true, false, IsTrue, List, [], ◌∷◌, map, length, get_or, Some, None, Result, Err, slice_get, max, true≢false, refl, sym, subst, ap, ◌∙◌, inl, inr, arith, nat_lt, not, slice_index}
use Rattle.gr_model.specs.declared.event.Event.{Event}
use Rattle.gr_model.specs.declared.event.ItemId.{ItemId}
use Rattle.gr_model.specs.declared.event.Space.{Space}
use Rattle.gr_model.specs.declared.event.Word.{Word}
use Rattle.gr_model.specs.Prelude.{is_end, Mark, Arrivals, IsDivergentOf, HasItem, Streams, list_of, AreAccepted, memory_of}
use Rattle.gr_barriers.specs.declared.instances.BarrierError.{BarrierError}
use Rattle.gr_barriers.specs.declared.instances.BarrierError.TheVariants.{Ended}
use Rattle.gr_barriers.specs.Arrived.{GroupMarks, Arrives, Ends, sizes_of, group_of, marks_of, brought, fresh_group}
use Rattle.gr_clocks.specs.ClockedAccess.{ClockedAccess}
use Rattle.gr_clocks.specs.Counts.{Counts, CountSame, count_of, greatest_count}
use Rattle.gr_clocks.specs.ItemClocks.{ItemClocks, ReleaseClock, clocks_in, clock_in, clocks_left, AreNew, IsSpent, Ticks, Acquires, MeetsClocks}
use Rattle.gr_clocks.specs.Tables.{TicksGroup}
use Rattle.gr_clocks.proofs.ReleaseLemmas.{left_elsewhere}
use Rattle.gr_model.specs.declared.event.Space.TheVariants.{Global, Local}
use Rattle.gr_model.specs.declared.event.Word.TheVariants.{Global as GlobalWord}
use Rattle.gr_model.specs.declared.class.Class.{Class}
use Rattle.gr_model.specs.declared.class.Class.TheVariants.{PlainRead, PlainWrite, GroupModify}
use Rattle.gr_shadow.specs.Clashes.{clashes, IsHitIn}
use Rattle.gr_shadow.specs.StandsFor.{IsHitBy}

-- an end is before another
pub ends_twice : (s : Streams) (e : Event) → length s.sizes ≡ 1 → s.lists ≡ (e ∷ e ∷ []) ∷ [] → IsTrue (is_end e) → ¬ AreAccepted s
ends_twice s e one are end accepted =
    let here : slice_get (list_of s 0) 0 ≡ Some e = ap (λ (lists : List (List Event)). slice_get (get_or lists 0 []) 0) are in
    let last = ((accepted.each 0 (omega (arith, one))).good 0 e here).1 end in
    let long : length (list_of s 0) ≡ 2 = ap (λ (lists : List (List Event)). length (get_or lists 0 [])) are in
    omega (arith, last, long)

-- ---- clocks that have counted nothing, of a group of one item and a group of two

abbrev first : ItemId
first = record { group = 1; item = 0 }

abbrev other : ItemId
other = record { group = 1; item = 1 }

module _ (v : ItemClocks) (new : AreNew (1 ∷ 2 ∷ []) v) where
  nothing_counted : (m : Space) (i j : ItemId) → HasItem (1 ∷ 2 ∷ []) i → count_of (clock_in v m i) j ≡ 0
  nothing_counted m i j there = (new.clocks m).clocks i j there

  pub not_spent : ¬ IsSpent v first
  not_spent (m, full) =
      let none : count_of (clock_in v m first) first ≡ 0 = nothing_counted m first first (omega arith, omega arith) in
      omega (arith, none, full)

  -- what an event of the item is counted as
  pub counts_one : (m : Space) (after : ItemClocks) (c : Counts) → Ticks v first after → CountSame c (clock_in after m first) → count_of c first ≡ 1
  counts_one m after c ticks same =
      same first ∙ (ticks.ticks m).item.counts first ∙ ap (λ (n : ℕ). n + 1) (nothing_counted m first first (omega arith, omega arith))

  -- an acquire of a release on a global word learns nothing in local memory
  pub learns_nothing : (w after : ItemClocks) (s : ReleaseClock) → Ticks v first w → Local ≢ memory_of s.word → Acquires w other (s ∷ []) after → count_of (clock_in after Local other) first ≡ 0
  learns_nothing w after s ticks away acquires =
      let apart : other ≢ first = λ e. omega (arith, ap (λ (i : ItemId). i.item) e) in
      let before : count_of (clock_in w Local other) first ≡ 0 = ap (λ (c : Counts). count_of c first) ((ticks.ticks Local).others other apart) ∙ nothing_counted Local other first (omega arith, omega arith) in
      let left : greatest_count (clocks_left Local (s ∷ [])) first ≡ 0 = left_elsewhere Local [] s first away in
      let step : count_of (clock_in after Local other) first ≡ max (count_of (clock_in w Local other) first) (greatest_count (clocks_left Local (s ∷ [])) first) + 0 = (acquires.learns Local).item.counts first in
      omega (arith, before, left, step)

  -- nor does a barrier that flags global memory alone
  pub orders_nothing : (after : ItemClocks) → MeetsClocks v 1 true false after → count_of (clock_in after Local first) other ≡ 0
  orders_nothing after meets =
      let group : TicksGroup (clocks_in v Local) 1 (clocks_in after Local) = meets.groups Local in
      let there : 0 < slice_index (map length (clocks_in v Local)) 1 = subst (λ (sizes : List ℕ). 0 < slice_index sizes 1) (sym (new.clocks Local).shape) (omega arith) in
      (group.items 0 there).counts other ∙ ap (λ (n : ℕ). n + 0) (nothing_counted Local first other (omega arith, omega arith))

abbrev zeroth : ItemId
zeroth = record { group = 0; item = 0 }

-- an acquire of two releases on a global word learns of the second
pub learns_of_both : (w u after : ItemClocks) (r s : ReleaseClock) → r.word ≡ GlobalWord 4 → s.word ≡ GlobalWord 4 → Ticks w other u → CountSame s.clock (clock_in u Global other) → Acquires u zeroth (r ∷ s ∷ []) after → 0 < count_of (clock_in after Global zeroth) other
learns_of_both w u after r s of_r of_s ticks same acquires =
    let ticked : count_of (clock_in u Global other) other ≡ count_of (clock_in w Global other) other + 1 = (ticks.ticks Global).item.counts other in
    let left : count_of s.clock other ≡ count_of (clock_in u Global other) other = same other in
    let both : greatest_count (clocks_left Global (r ∷ s ∷ [])) other ≡ max (count_of r.clock other) (max (count_of s.clock other) 0) = rw (of_r, of_s) refl in
    let step : count_of (clock_in after Global zeroth) other ≡ max (count_of (clock_in u Global zeroth) other) (greatest_count (clocks_left Global (r ∷ s ∷ [])) other) + 0 = (acquires.learns Global).item.counts other in
    omega (arith, ticked, left, both, step)

-- ---- hits

no_hit_of_one : (x : ClockedAccess) (w : Word) → ¬ IsHitIn (x ∷ []) w
no_hit_of_one x w (p, zero, a, b, below, at_p, at_q, clash) = omega (arith, below)
no_hit_of_one x w (p, suc q, a, b, below, at_p, at_q, clash) = absurd cc

no_hit_of_two : (x y : ClockedAccess) (w : Word) → clashes x y ≡ false → ¬ IsHitIn (x ∷ y ∷ []) w
no_hit_of_two x y w apart (p, zero, a, b, below, at_p, at_q, clash) = omega (arith, below)
no_hit_of_two x y w apart (zero, suc zero, a, b, below, at_p, at_q, clash) =
    let e : clashes x y ≡ clashes a b = cc in
    true≢false (sym clash.clashes ∙ sym e ∙ apart)
no_hit_of_two x y w apart (suc p, suc zero, a, b, below, at_p, at_q, clash) = omega (arith, below)
no_hit_of_two x y w apart (p, suc (suc q), a, b, below, at_p, at_q, clash) = absurd cc

abbrev pub one : ItemId
one = record { group = 0; item = 0 }

abbrev another : ItemId
another = record { group = 1; item = 0 }

-- an access to global word 4 of an item that knows of no event
abbrev pub IsBlind : ItemId → ℕ → Class → ClockedAccess → Type 0
IsBlind item index class x = (x.word ≡ GlobalWord 4) × (x.item ≡ item) × (x.index ≡ index) × (x.class ≡ class) × ((j : ItemId) → count_of x.clock j ≡ 0)

pub hit_by_atomic : (x y : ClockedAccess) → IsBlind one 0 GroupModify x → IsBlind another 0 GroupModify y → IsHitBy (x ∷ []) y (GlobalWord 4)
hit_by_atomic x y (xw, xi, xn, xc, xk) (yw, yi, yn, yc, yk) =
    let clash : IsTrue (clashes x y) = rw (xi, yi, xn, xc, yc, yk one) refl in
    record {
      now = (0, 1, x, y, omega arith, refl, refl, record { first = xw; second = yw; clashes = clash });
      before = no_hit_of_one x (GlobalWord 4);
    }

pub hit_by_write : (x y z : ClockedAccess) → IsBlind one 0 PlainRead x → IsBlind another 1 PlainRead y → IsBlind another 2 PlainWrite z → IsHitBy (x ∷ y ∷ []) z (GlobalWord 4)
hit_by_write x y z (xw, xi, xn, xc, xk) (yw, yi, yn, yc, yk) (zw, zi, zn, zc, zk) =
    let clash : IsTrue (clashes x z) = rw (xi, zi, xn, xc, zc, zk one) refl in
    let reads : clashes x y ≡ false = rw (xi, yi, xn, xc, yc) refl in
    record {
      now = (0, 2, x, z, omega arith, refl, refl, record { first = xw; second = zw; clashes = clash });
      before = no_hit_of_two x y (GlobalWord 4) reads;
    }

pub hit_by_read : (x y z : ClockedAccess) → IsBlind one 5 PlainWrite x → IsBlind one 2 PlainWrite y → z.word ≡ GlobalWord 4 → z.item ≡ another → count_of z.clock one ≡ 3 → IsHitBy (x ∷ y ∷ []) z (GlobalWord 4)
hit_by_read x y z (xw, xi, xn, xc, xk) (yw, yi, yn, yc, yk) zw zi three =
    let clash : IsTrue (clashes x z) = rw (xi, zi, xn, xc) (ap (λ (n : ℕ). not (nat_lt 5 n)) three) in
    let writes : clashes x y ≡ false = rw (xi, yi) refl in
    record {
      now = (0, 2, x, z, omega arith, refl, refl, record { first = xw; second = zw; clashes = clash });
      before = no_hit_of_two x y (GlobalWord 4) writes;
    }

-- ---- barriers of a group of two items

abbrev item : ℕ → ItemId
item n = record { group = 0; item = n }

-- one of two items has come, and its group goes on
one_waits : (complete : Bool) (size : ℕ) (arrived : Arrivals) (a : Mark) → complete ≡ false → size ≡ 2 → arrived 0 ≡ Some a → arrived 1 ≡ None → ¬ IsDivergentOf complete size arrived
one_waits complete size arrived a goes_on two came missing (inl (zero, zero, b, c, (wi, ib), (wj, jc), differ)) = differ cc
one_waits complete size arrived a goes_on two came missing (inl (suc zero, j, b, c, (wi, ib), at_j, differ)) = cc
one_waits complete size arrived a goes_on two came missing (inl (suc (suc i), j, b, c, (wi, ib), at_j, differ)) = absurd (omega (arith, wi, two))
one_waits complete size arrived a goes_on two came missing (inl (zero, suc zero, b, c, at_i, (wj, jc), differ)) = cc
one_waits complete size arrived a goes_on two came missing (inl (zero, suc (suc j), b, c, at_i, (wj, jc), differ)) = absurd (omega (arith, wj, two))
one_waits complete size arrived a goes_on two came missing (inr (ended, rest)) = cc

pub waits : (v old : List GroupMarks) (a : Mark) → old ≡ map fresh_group (2 ∷ []) → Arrives old (item 0) a v → ¬ IsDivergentOf (group_of v 0).ended (length (group_of v 0).marks) (brought (group_of v 0) 0)
waits [] old a is arrives =
    let sizes : length (sizes_of []) ≡ 1 = ap (λ (sizes : List ℕ). length sizes) (arrives.sizes ∙ ap sizes_of is) in
    absurd (omega (arith, sizes))
waits (t ∷ rest) old a is arrives =
    let sizes : sizes_of (t ∷ rest) ≡ 2 ∷ [] = arrives.sizes ∙ ap sizes_of is in
    let two : length t.marks ≡ 2 = cc in
    let goes_on : t.ended ≡ false = arrives.ended 0 ∙ ap (λ (u : List GroupMarks). (group_of u 0).ended) is in
    let came : brought t 0 0 ≡ Some a = ap (λ (marks : List Mark). slice_get marks 0) (arrives.item ∙ ap (λ (u : List GroupMarks). marks_of u (item 0) ++ a ∷ []) is) in
    let other : item 1 ≢ item 0 = λ e. omega (arith, ap (λ (i : ItemId). i.item) e) in
    let missing : brought t 0 1 ≡ None = ap (λ (marks : List Mark). slice_get marks 0) (arrives.others (item 1) other ∙ ap (λ (u : List GroupMarks). marks_of u (item 1)) is) in
    one_waits t.ended (length t.marks) (brought t 0) a goes_on two came missing

module _ (v old : List GroupMarks) (is : old ≡ map fresh_group (2 ∷ [])) (ends : Ends old 0 v) where
  pub none_came : length (marks_of v (item 0)) ≡ 0
  none_came = ap (λ (marks : List Mark). length marks) (ends.marks (item 0) ∙ ap (λ (u : List GroupMarks). marks_of u (item 0)) is)

  pub is_refused : (result : Result ℕ BarrierError) → ((g : ℕ) → (result ≡ Err (Ended g)) ↔ (HasItem (sizes_of v) (item 0) × IsTrue (group_of v 0).ended × (g ≡ 0))) → result ≡ Err (Ended 0)
  is_refused result ended =
      let there : HasItem (sizes_of v) (item 0) = subst (λ (sizes : List ℕ). HasItem sizes (item 0)) (sym (ends.sizes ∙ ap sizes_of is)) (omega arith, omega arith) in
      (ended 0).1 (there, ends.group, refl)

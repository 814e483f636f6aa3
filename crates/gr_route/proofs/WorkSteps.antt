-- The steps of a work queue, and what its seats tell.
use Rattle.gr_model.proofs.Common.{arith, nat_tests, ◌≡◌, ◌<◌, ℕ, zero, suc, Bool, true, false, List, [], ◌∷◌, ◌++◌, Some, sym, refl, ap, ◌∙◌, subst, append-nil, slice_index, length, set, All, All-head, All-tail, All-weaker, IsTrue, IsFalse, IfSome, ◌≢◌}
use Rattle.crossbeam_queue.specs.Fifo as queue
use Rattle.crossbeam_queue.specs.Passes.{IsSamePass, view}
use Rattle.gr_route.specs.Types.{Joined, SeatView, Work, Access, Stop}
use Rattle.gr_route.specs.Batches.{all_of, front}
use Rattle.gr_route.specs.Prefixes.{StartsWith}
use Rattle.gr_route.specs.Rooms.{AgreesWith}
use Rattle.gr_route.specs.Rule.{BatchesAgree, IsDelivered, IsTakerPass, PassOf, after_split, seat_of, taker_of}
use Rattle.gr_route.specs.WorkRule.{SeatsAgree, StopMakesWhole, StopsLast, given_of, is_stopped, sizes_of, work_of}
use Rattle.gr_route.specs.WorkSeats.{AgreesWithWorker, GiverTells, IsDelivery, Worker, WorkerTells, worker_seen}
use Rattle.gr_route.proofs.PrefixLemmas.{both_nil}
use Rattle.gr_route.proofs.Steps as rule
use Rattle.gr_route.proofs.Views.{none_holds}

-- before the giver's seat was split off
unseated : (s : Bool) → s ≡ false → (0 < length (sizes_of s)) × (slice_index (sizes_of s) 0 ≡ 0)
unfolding sizes_of
unseated s unsplit = (omega arith, cc unsplit)

module _ {A : Type 0} where
  -- ---- `Stop`

  pub stops_push : (xs : List (Work A)) (x : Work A) → IsFalse (is_stopped xs) → StopsLast (xs ++ x ∷ [])
  stops_push [] x unstopped = ((λ _. refl), tt)
  stops_push (Access y ∷ ys) x unstopped = (none_holds, stops_push ys x unstopped)
  stops_push (Stop ∷ ys) x unstopped = none_holds (sym unstopped)

  stops_prefix : (xs ys : List (Work A)) → StopsLast (xs ++ ys) → StopsLast xs
  stops_prefix [] ys h = tt
  stops_prefix (x ∷ xs) ys h = ((λ stop. (both_nil xs ys (h.0 stop)).0), stops_prefix xs ys h.1)

  none_after : (prefix rest : List (Work A)) → StopsLast (prefix ++ rest) → IsTrue (is_stopped prefix) → rest ≡ []
  none_after [] rest h stopped = none_holds stopped
  none_after (Access y ∷ xs) rest h stopped = none_after xs rest h.1 stopped
  none_after (Stop ∷ xs) rest h stopped = (both_nil xs rest (h.0 refl)).1

  -- what comes last comes before no other
  pub unstopped_before : (xs : List (Work A)) (x : Work A) → StopsLast (xs ++ x ∷ []) → IsFalse (is_stopped xs)
  unstopped_before xs x h = grind (arith, none_after xs (x ∷ []) h)

  pub stop_makes_whole : StopMakesWhole A
  stop_makes_whole list prefix stops starts stopped = grind (arith, none_after prefix starts.0, starts.1, append-nil prefix)

  -- ---- the rule

  pub work_apart : (xs : List (Work A)) (g : ℕ) → g ≢ 0 → work_of g xs ≡ []
  work_apart xs g apart = grind (arith, nat_tests, apart)

  pub work : rule.Kind (work_of {A = A}) (λ _. StopsLast)
  work = record { nil = λ g. grind (arith, nat_tests); append = λ g xs ys. grind (arith, nat_tests); none = λ n. tt; begin = λ n. stops_prefix }

  pub splits_as : (pass : ℕ) (v : SeatView (Work A) (Work A)) (s : Bool) → v ≡ taker_of v.popped (sizes_of s) v.joined → s ≡ false → queue.Forks (BatchesAgree SeatsAgree) pass v (after_split 0 1 v) (seat_of 0 1 [])
  splits_as pass v s is unsplit = rule.splits_as work pass 0 1 v (sizes_of s) is (unseated s unsplit).0 (unseated s unsplit).1 (omega arith)

  pub sizes_split : (v : SeatView (Work A) (Work A)) (s : Bool) → v ≡ taker_of v.popped (sizes_of s) v.joined → set v.sizes 0 1 ≡ sizes_of true
  unfolding sizes_of
  sizes_split v s is = ap (λ (u : SeatView (Work A) (Work A)). set u.sizes 0 1) is

  pub kept : (p q : PassOf (Work A) (Work A)) (s : Bool) (r t : List (Work A)) → IsTakerPass work_of (λ _. StopsLast) p (sizes_of s) r → IsSamePass p q → view q ≡ view p → r ≡ t → IsTakerPass work_of (λ _. StopsLast) q (sizes_of s) t
  kept p q s = rule.kept work p q (sizes_of s)

  -- ---- the giver's seat that was joined back

  -- all work is of its group
  all_is_its : (s : Bool) (g items : ℕ) (all : List (Work A)) → items ≡ slice_index (sizes_of s) g → items ≢ 0 → work_of g all ≡ all
  unfolding sizes_of
  all_is_its s zero items all is some = refl
  all_is_its s (suc g) items all is some = absurd (some is)

  given_as : (P : List (Work A) → Type 0) (js : List (Joined (Work A))) → All (λ j. P j.pushed) js → IfSome (given_of js) P
  given_as P [] all = tt
  given_as P (j ∷ []) all = All-head (λ (j : Joined (Work A)). P j.pushed) j [] all
  given_as P (j ∷ k ∷ js) all = given_as P (k ∷ js) (All-tail (λ (j : Joined (Work A)). P j.pushed) j (k ∷ js) all)

  pub given_joined : (js : List (Joined (Work A))) (j : Joined (Work A)) → given_of (js ++ j ∷ []) ≡ Some j.pushed
  given_joined [] j = refl
  given_joined (k ∷ []) j = refl
  given_joined (k ∷ l ∷ js) j = given_joined (l ∷ js) j

  -- of the giver's seat that was joined back
  pub delivered_back : (w : Worker A) (all : List (Work A)) → w.given ≡ Some all → IsDelivery w → StartsWith all w.popped × StopsLast all
  delivered_back w all is d = subst (λ o. IfSome o (λ l. StartsWith l w.popped × StopsLast l)) is d.prefix

  -- ---- what the seats tell

  pub giver_tells : GiverTells A
  giver_tells g items a = (rule.seat_tells work 0 1 g.pushed items a).0

  pub worker_tells : WorkerTells A
  worker_tells w items a =
      let all : List (Work A) = w.popped ++ items in
      let b = rule.taker_tells work w.popped items (sizes_of w.split) a.0 a.2 in
      record {
        stops = b.streams 0;
        unsplit = λ f. b.unseated 0 (unseated w.split f).1;
        given = subst (λ o. IfSome o (λ l. l ≡ all)) a.1 (given_as (λ l. l ≡ all) a.0 (All-weaker (λ j. (j.pushed ≡ work_of j.group all) × (j.items ≡ slice_index (sizes_of w.split) j.group) × (j.items ≢ 0)) (λ j. j.pushed ≡ all)
            (λ j t. t.0 ∙ all_is_its w.split j.group j.items all t.1 t.2) a.0 b.joined));
      }

  -- ---- the worker's seat, as contracts see it

  pub delivery : (p : PassOf (Work A) (Work A)) (s : Bool) (r : List (Work A)) → IsTakerPass work_of (λ _. StopsLast) p (sizes_of s) r → IsDelivery (worker_seen p s r)
  delivery p s r is =
      let d = rule.delivers work p (sizes_of s) r is in
      let popped : List (Work A) = front (view p).popped r in
      record {
        stops = d.streams 0;
        unsplit = λ f. d.unseated 0 (unseated s f).1;
        prefix = given_as (λ all. StartsWith all popped × StopsLast all) (view p).joined
            (All-weaker (IsDelivered work_of (λ _. StopsLast) popped (sizes_of s)) (λ j. StartsWith j.pushed popped × StopsLast j.pushed)
            (λ j e. (subst (StartsWith j.pushed) (all_is_its s j.group j.items popped e.items e.some) e.prefix, e.stream)) (view p).joined d.joined);
      }

  pub was_empty : (w : Worker A) (p : PassOf (Work A) (Work A)) (s : Bool) (r : List (Work A)) → IsTakerPass work_of (λ _. StopsLast) p (sizes_of s) r → worker_seen p s r ≡ w → r ≡ [] → queue.Held 0 (AgreesWith (BatchesAgree SeatsAgree) (view p))
      → queue.Held 0 (λ batches. AgreesWithWorker w (all_of batches))
  was_empty w p s r is was none h =
      let v : view p ≡ taker_of w.popped (sizes_of w.split) (view p).joined = grind (arith, is.known, is.left, was, none, append-nil (front (view p).popped r)) in
      (h.0, h.1, ((view p).joined, ap (λ (u : Worker A). u.given) was, subst (λ (u : SeatView (Work A) (Work A)). AgreesWith SeatsAgree u (all_of h.0)) v h.2))

  -- of work that was handed out
  pub handed : (w : Worker A) (p q : PassOf (Work A) (Work A)) (s : Bool) (r0 r1 b : List (Work A)) → worker_seen p s r0 ≡ w → rule.Hands work p q (sizes_of s) r0 r1 b → (worker_seen q s r1 ≡ record w { popped = w.popped ++ b }) × IsDelivery (record w { popped = w.popped ++ b })
  handed w p q s r0 r1 b was h =
      let now : worker_seen q s r1 ≡ record w { popped = w.popped ++ b } = grind (arith, was, h.some, h.same.0, h.same.1) in
      (now, subst IsDelivery now (delivery q s r1 h.is))

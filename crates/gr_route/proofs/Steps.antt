-- Each kind of step keeps the rule of a queue, and what a seat learns by the steps.
use Rattle.gr_model.proofs.Common.{cond, eqb, eq-eqb, ne_eqb, ◌≡◌, ◌≢◌, ℕ, ◌<◌, List, [], ◌∷◌, ◌++◌, length, set, sym, refl, ap, ◌∙◌, subst, ap₂, append_assoc, append-nil, arith, slice_index, get_or-set_same, get_or-set_other, All-nil, All-push, All-weaker}
use mathlib.Core.Logic.{dite}
use mathlib.Core.Option as seat
use native.Mathlib.Decide.{ℕ_discrete}
use Rattle.crossbeam_queue.specs.Fifo as queue
use Rattle.crossbeam_queue.specs.Passes.{IsSamePass, view}
use Rattle.gr_route.specs.Types.{Joined, SeatView}
use Rattle.gr_route.specs.Batches.{all_of, front}
use Rattle.gr_route.specs.Prefixes.{EndsWith}
use Rattle.gr_route.specs.Rooms.{AgreesWith}
use Rattle.gr_route.specs.Rule.{Account, BatchesAgree, FitsJoined, FitsSeat, FitsTaker, IsDelivered, IsDelivery, IsTakerPass, IsWhole, PassOf, Pops, Pushes, SeatsAgree, after_join, after_split, joined_from, seat_of, spent_view, taker_of}
use Rattle.gr_route.proofs.BatchLemmas.{all_of_push, front_left, front_of}
use Rattle.gr_route.proofs.PrefixLemmas.{both_nil}
use Rattle.gr_route.proofs.Views.{each_one, each_set, each_snoc, none_holds, there_before, each_merged, set_there}

-- a function with another value at one place
abbrev changed : {A : Type 0} → (ℕ → A) → ℕ → A → ℕ → A
changed f g x k = cond (eqb k g) x (f k)

changes : {A : Type 0} (f : ℕ → A) (g : ℕ) (x : A) → (changed f g x g ≡ x) × ((k : ℕ) → k ≢ g → changed f g x k ≡ f k)
changes f g x = (ap (λ b. cond b x (f g)) (eq-eqb g g refl), λ k other. ap (λ b. cond b x (f k)) (ne_eqb k g other))

-- what the steps need of a kind of queue
pub record Kind {E T : Type 0} (of : ℕ → List E → List T) (May : ℕ → List T → Type 0) : Type 0 where
  pub nil : (g : ℕ) → of g [] ≡ []
  pub append : (g : ℕ) (xs ys : List E) → of g (xs ++ ys) ≡ of g xs ++ of g ys
  pub none : (n : ℕ) → May n []
  pub begin : (n : ℕ) (xs ys : List T) → May n (xs ++ ys) → May n xs

module _ {E T : Type 0} {of : ℕ → List E → List T} {May : ℕ → List T → Type 0} (kind : Kind of May) where
  abbrev Fits : Account E T → ℕ → SeatView E T → Type 0
  Fits a pass v = FitsSeat a pass v × FitsTaker a pass v

  may_as : {m n : ℕ} {xs ys : List T} → m ≡ n → xs ≡ ys → May m xs → May n ys
  may_as size same p = subst (λ (y : ℕ × List T). May y.0 y.1) (λ i. (size i, same i)) p

  -- ---- a new queue

  pub begins : (sizes : List ℕ) → SeatsAgree of May [] (taker_of [] sizes [] ∷ [])
  begins sizes =
      let is : Account E T = record { taker = 0; popped = []; holder = λ _. seat.none; sent = λ _. []; size = λ g. slice_index sizes g } in
      record {
        is = is;
        queued = kind.nil;
        prefixes = λ g. kind.none (is.size g);
        unseated = λ g none. (refl, refl);
        fits = each_one (Fits is) (taker_of [] sizes []) (none_holds, (λ _. (refl, refl, (λ g. refl), All-nil (FitsJoined is))));
      }

  -- ---- a push

  pub pushes_as : (n pass g items : ℕ) (v : SeatView E T) (b : List E) → v ≡ seat_of g items v.pushed → ((k : ℕ) → k ≢ g → of k b ≡ []) → (May items v.pushed → May items (v.pushed ++ of g b))
      → queue.Pushes (BatchesAgree (SeatsAgree of May)) n pass v b (Pushes of v b) × queue.Learns (BatchesAgree (SeatsAgree of May)) pass v (AgreesWith (BatchesAgree (SeatsAgree of May)) v)
  pushes_as n pass g items v b is apart grows = (
    (λ batches views _ h at.
        let mine = (h.fits pass v at).0 (cc is) in
        let w : SeatView E T = seat_of v.group v.items (v.pushed ++ of v.group b) in
        let sent : ℕ → List T = λ k. h.is.sent k ++ of k b in
        let now : Account E T = record h.is { sent = sent } in
        let size : items ≡ h.is.size v.group = sym (ap (λ (u : SeatView E T). u.items) is) ∙ mine.2 in
        let other : (k : ℕ) → k ≢ v.group → sent k ≡ h.is.sent k = λ k away. grind (arith, is, apart k, append-nil (h.is.sent k)) in (
          w,
          record {
            is = now;
            queued = λ k. grind (arith, all_of_push batches b, append_assoc h.is.popped (all_of batches) b, kind.append k (h.is.popped ++ all_of batches) b, h.queued k);
            prefixes = λ k. dite (ℕ_discrete k v.group)
                (λ same. rw same (may_as size (ap₂ (λ l k. l ++ of k b) mine.1 (sym (ap (λ (u : SeatView E T). u.group) is))) (grows (may_as (sym size) (sym mine.1) (h.prefixes v.group)))))
                (λ away. rw (other k away) (h.prefixes k));
            unseated = λ k none. grind (arith, h.unseated k none, other k, mine.0);
            fits = each_set (Fits now) views pass w ((λ _. (mine.0, ap (λ l. l ++ of v.group b) mine.1, mine.2)), none_holds) (λ j u away there. let old = h.fits j u there in (
              (λ q. grind (arith, old.0 q, other u.group, mine.0, away)),
              (λ q.
                  let o = old.1 q in
                  let fits = All-weaker (FitsJoined h.is) (FitsJoined now) (λ c t. grind (arith, t, other c.group, mine.0)) in
                  (o.0, o.1, o.2, fits u.joined o.3)),
            ));
          },
          refl,
        )),
    (λ batches views h at. (views, pass, at, h)),
  )

  -- what the queue holds, if it agrees with a seat that pushes
  pub seat_tells : (g n : ℕ) (pushed : List T) (items : List E) → AgreesWith (SeatsAgree of May) (seat_of g n pushed) items
      → EndsWith pushed (of g items) × ((k : ℕ) → (size : ℕ) × (sent : List T) × May size sent × EndsWith sent (of k items))
  seat_tells g n pushed items a =
      let h = a.3 in
      let sent : (k : ℕ) → h.is.sent k ≡ of k h.is.popped ++ of k items = λ k. sym (h.queued k) ∙ kind.append k h.is.popped items in
      ((of g h.is.popped, ((h.fits a.1 _ a.2).0 refl).1 ∙ sent g), (λ k. (h.is.size k, h.is.sent k, h.prefixes k, (of k h.is.popped, sent k))))

  -- ---- a pop

  -- what the queue holds, if it agrees with the seat that pops
  pub taker_tells : (popped items : List E) (sizes : List ℕ) (joined : List (Joined T)) → AgreesWith (SeatsAgree of May) (taker_of popped sizes joined) items → IsWhole of May (popped ++ items) sizes joined
  taker_tells popped items sizes joined a =
      let h = a.3 in
      let mine = (h.fits a.1 (taker_of popped sizes joined) a.2).1 refl in
      let e : (g : ℕ) → of g (popped ++ items) ≡ h.is.sent g = λ g. rw mine.1 (h.queued g) in
      record {
        streams = λ g. may_as (sym (mine.2 g)) (sym (e g)) (h.prefixes g);
        unseated = λ g none. grind (arith, e g, h.unseated g, mine.2 g);
        joined = All-weaker (FitsJoined h.is) (λ j. (j.pushed ≡ of j.group (popped ++ items)) × (j.items ≡ slice_index sizes j.group) × (j.items ≢ 0))
            (λ j f. (f.1 ∙ sym (e j.group), f.2 ∙ sym (mine.2 j.group), (λ z. f.3 (sym f.2 ∙ z)))) joined mine.3;
      }

  pub pops_as : (pass : ℕ) (v : SeatView E T) (s : List ℕ) → v ≡ taker_of v.popped s v.joined
      → queue.Pops (BatchesAgree (SeatsAgree of May)) pass v (Pops (SeatsAgree of May) v) × queue.Learns (BatchesAgree (SeatsAgree of May)) pass v (AgreesWith (BatchesAgree (SeatsAgree of May)) v)
  pops_as pass v s is = (
    (λ b batches views h at.
        let mine = (h.fits pass v at).1 (cc is) in
        let w : SeatView E T = taker_of (v.popped ++ b) v.sizes v.joined in
        let is' : Account E T = record h.is { popped = h.is.popped ++ b } in
        let now : SeatsAgree of May (all_of batches) (set views pass w) = record {
          is = is';
          queued = λ g. ap (of g) (append_assoc h.is.popped b (all_of batches)) ∙ h.queued g;
          prefixes = h.prefixes;
          unseated = h.unseated;
          fits = each_set (Fits is') views pass w (none_holds, (λ _. (mine.0, ap (λ k. k ++ b) mine.1, mine.2, mine.3)))
              (λ j u apart there. let old = h.fits j u there in (old.0, (λ q. absurd (apart ((old.1 q).0 ∙ sym mine.0)))));
        } in
        (w, now, (refl, (all_of batches, (set views pass w, pass, set_there views pass v w at, now))))),
    (λ batches views h at. (views, pass, at, h)),
  )

  -- ---- a split

  pub splits_as : (pass g n : ℕ) (v : SeatView E T) (s : List ℕ) → v ≡ taker_of v.popped s v.joined → g < length s → slice_index s g ≡ 0 → 0 < n → queue.Forks (BatchesAgree (SeatsAgree of May)) pass v (after_split g n v) (seat_of g n [])
  splits_as pass g n v s is within vacant some_items items views h at =
      let mine = (h.fits pass v at).1 (cc is) in
      let unsized : h.is.size g ≡ 0 = grind (arith, mine.2 g, vacant, is) in
      let gone = h.unseated g unsized in
      let vs : List (SeatView E T) = set views pass (after_split g n v) in
      let held = changes h.is.holder g (seat.some (length vs)) in
      let sized = changes h.is.size g n in
      let now : Account E T = record h.is { holder = changed h.is.holder g (seat.some (length vs)); size = changed h.is.size g n } in
      record {
        is = now;
        queued = h.queued;
        prefixes = λ k. dite (ℕ_discrete k g) (λ same. rw (same, gone.1) (kind.none _)) (λ other. rw (sized.1 k other) (h.prefixes k));
        unseated = λ k none. grind (arith, none, h.unseated k, held.1 k, sized.1 k, sized.0, some_items);
        fits = each_snoc (Fits now) vs (seat_of g n [])
            (each_set (Fits now) views pass (after_split g n v) (
              none_holds,
              (λ _. (
                mine.0,
                mine.1,
                (λ k. grind (arith, is, get_or-set_same s g n 0 within, get_or-set_other s g k n 0, mine.2 k, sized.0, sized.1 k)),
                All-weaker (FitsJoined h.is) (FitsJoined now) (λ j t. grind (arith, t, unsized, held.1 j.group, sized.1 j.group)) v.joined mine.3,
              )),
            )
            (λ j u other there. let old = h.fits j u there in (
              (λ q. grind (arith, old.0 q, gone.0, held.1 u.group, sized.1 u.group)),
              (λ q. absurd (other ((old.1 q).0 ∙ sym mine.0))),
            )))
            ((λ _. (held.0, sym gone.1, sym sized.0)), none_holds);
      }

  -- ---- a join

  pub joins_as : (pass : ℕ) (v : SeatView E T) (s : List ℕ) (other g items : ℕ) (u : SeatView E T) → v ≡ taker_of v.popped s v.joined → u ≡ seat_of g items u.pushed
      → queue.Merges (BatchesAgree (SeatsAgree of May)) pass v other u (after_join v u) spent_view
  joins_as pass v s other g n u is from items views h at two at' =
      let mine = (h.fits pass v at).1 (cc is) in
      let theirs = (h.fits other u (there_before views pass other _ u two at')).0 (cc from) in
      let held = changes h.is.holder u.group seat.none in
      let now : Account E T = record h.is { holder = changed h.is.holder u.group seat.none } in
      record {
        is = now;
        queued = h.queued;
        prefixes = h.prefixes;
        unseated = λ k z. grind (arith, h.unseated k z, held.0, held.1 k);
        fits = each_merged (Fits now) views pass other (after_join v u) spent_view (
          none_holds,
          (λ _. (
            mine.0,
            mine.1,
            mine.2,
            All-push (FitsJoined now) v.joined (joined_from u)
                (All-weaker (FitsJoined h.is) (FitsJoined now) (λ j t. grind (arith, t, held.0, held.1 j.group)) v.joined mine.3)
                (held.0, theirs.1, theirs.2, λ z. grind (arith, theirs.0, h.unseated u.group z)),
          )),
        )
            (none_holds, none_holds)
            (λ j y mine' theirs' there. let old = h.fits j y there in (
              (λ q. grind (arith, old.0 q, theirs.0, theirs', held.1 y.group)),
              (λ q. absurd (mine' ((old.1 q).0 ∙ sym mine.0))),
            ));
      }

  -- ---- the seat that pops

  pub begun : (p : PassOf E T) (s : List ℕ) (r : List E) → p.me.1 ≡ [] → view p ≡ taker_of [] s [] → r ≡ [] → IsTakerPass of May p s r
  begun p s r idle is none = record {
    idle = idle;
    known = rw is refl;
    left = front_left (view p).popped [] r (cc (is, none));
    agrees = ([], (taker_of [] s [] ∷ [], 0, ap seat.some (sym is), begins s));
  }

  pub delivers : (p : PassOf E T) (s : List ℕ) (r : List E) → IsTakerPass of May p s r → IsDelivery of May (front (view p).popped r) s (view p).joined
  delivers p s r is =
      let v = view p in
      let a : List E = front v.popped r in
      let items = is.agrees.0 in
      let later : List E = r ++ items in
      let b = taker_tells v.popped items s v.joined (subst (λ (u : SeatView E T). AgreesWith (SeatsAgree of May) u items) is.known is.agrees.1) in
      let all : (g : ℕ) → of g (v.popped ++ items) ≡ of g a ++ of g later = λ g. grind (arith, is.left, append_assoc a r items, kind.append g a later) in
      record {
        streams = λ g. kind.begin _ _ (of g later) (may_as refl (all g) (b.streams g));
        unseated = λ g none. (both_nil (of g a) (of g later) (sym (all g) ∙ b.unseated g none)).0;
        joined = All-weaker (λ j. (j.pushed ≡ of j.group (v.popped ++ items)) × (j.items ≡ slice_index s j.group) × (j.items ≢ 0)) (IsDelivered of May a s)
            (λ j e. record {
              items = e.1;
              some = e.2;
              stream = may_as (sym e.1) (sym e.0) (b.streams j.group);
              prefix = (of j.group later, e.0 ∙ all j.group);
            }) v.joined b.joined;
      }

  -- nothing was popped
  pub kept : (p q : PassOf E T) (s : List ℕ) (r t : List E) → IsTakerPass of May p s r → IsSamePass p q → view q ≡ view p → r ≡ t → IsTakerPass of May q s t
  kept p q s r t is same eq rest = record { idle = same.2 ∙ is.idle; known = rw eq is.known; left = rw (eq, ← rest) is.left; agrees = rw eq is.agrees }

  -- after a group's seat was split off or joined back
  pub turned : (p q n : PassOf E T) (s t u : List ℕ) (js : List (Joined T)) (r : List E) → IsTakerPass of May p s r → IsSamePass p q → view q ≡ taker_of (view p).popped u js → u ≡ t → IsSamePass q n × (view n ≡ view q)
      → (batches : List (List E)) × AgreesWith (BatchesAgree (SeatsAgree of May)) (view q) batches → IsTakerPass of May n t r
  turned p q n s t u js r is first now same then learned = grind (arith, then.1, then.0.2, first.2, is.idle)

  -- values are handed out of what was left, or of a batch if nothing was left: the pass and what was left before it and after it, and the values
  pub record Hands (p q : PassOf E T) (s : List ℕ) (r0 r1 b : List E) : Type 0 where
    pub is : IsTakerPass of May q s r1
    pub some : front (view q).popped r1 ≡ front (view p).popped r0 ++ b
    pub same : (q.table_id ≡ p.table_id) × ((view q).joined ≡ (view p).joined)

  pub hands : (p q : PassOf E T) (s : List ℕ) (r0 r1 b batch : List E) → IsTakerPass of May p s r0 → r0 ++ batch ≡ b ++ r1 → IsSamePass p q → Pops (SeatsAgree of May) (view p) batch (view q) → Hands p q s r0 r1 b
  hands p q s r0 r1 b batch is first same learned =
      let old = front (view p).popped r0 in
      let all : (view q).popped ≡ (old ++ b) ++ r1 = grind (arith, learned.0, is.left, first, append_assoc old r0 batch, append_assoc old b r1) in
      record {
        is = record { idle = same.2 ∙ is.idle; known = cc (learned.0, is.known); left = front_left (view q).popped (old ++ b) r1 all; agrees = learned.1 };
        some = front_of (view q).popped (old ++ b) r1 all;
        same = (same.0, cc learned.0);
      }

  pub hands_left : (p : PassOf E T) (s : List ℕ) (r0 r1 b : List E) → IsTakerPass of May p s r0 → r0 ≡ b ++ r1 → Hands p p s r0 r1 b
  hands_left p s r0 r1 b is first = hands p p s r0 r1 b [] is (append-nil r0 ∙ first) (refl, refl, refl) (grind (arith, is.known, append-nil (view p).popped), is.agrees)

-- The senders and the receipts of streams, one stream after the other.
use Rattle.gr_model.proofs.Common.{◌≡◌, ◌≢◌, ℕ, suc, ◌+◌, ◌-◌, ◌<◌, List, [], ◌∷◌, ◌++◌, length, map, get_or, set, All, Contains, Option, None, Some, Ok, Err, add-zero, append-nil, refl, sym, ap, ◌∙◌, subst, arith, cases_eq, cases_lt, get_or-append-add, get_or-set_other, get_or-set_same, get_or_append_left, get_or_past, length-append, length-map, map-append, nil_from_length, places, Contains-append_left, Contains-append_right}
use Rattle.gr_streams.specs.Types.{Event, Header, Ended}
use Rattle.gr_intake.specs.Joined.{◌>>=◌}
use Rattle.gr_route.specs.Batches.{all_of}
use Rattle.gr_threads.specs.Senders.{Sending}
use Rattle.gr_streams.specs.Headers.{AreApart}
use Rattle.gr_streams.specs.Records.{and_one, events_at, lists_behind}
use Rattle.gr_streams.specs.Sources.{AreBegun, AreEndsOf, ArePlaced, AreServed, Begun, HasSender, IsEndOf}

-- ---- before the first stream

pub all_yielded : {X : Type 0} (ys left all : List X) → ys ++ left ≡ all → length left ≡ 0 → ys ≡ all
all_yielded ys left all is none = sym (append-nil ys) ∙ (ap (λ (l : List _). ys ++ l) (sym (nil_from_length left none)) ∙ is)

pub all_joined : {X : Type 0} (ys : List X) (left : List (List X)) (all : List X) → ys ++ all_of left ≡ all → length left ≡ 0 → ys ≡ all
all_joined ys left all is none = all_yielded ys (all_of left) all is (ap (λ (l : List (List _)). length (all_of l)) (nil_from_length left none))

-- ---- a sender is taken from its place

pub has_place : (senders : List (Option Sending)) (g : ℕ) → HasSender senders g → g < length senders
has_place senders g (s, at) = grind (arith, cases_lt g (length senders), get_or_past senders g None)

-- the senders that remain were there
pub was_there : (senders : List (Option Sending)) (group : ℕ) → group < length senders → (g : ℕ) (s : Sending)
    → get_or (set senders group None) g None ≡ Some s → get_or senders g None ≡ Some s
was_there senders group lt g s at = grind (arith, cases_eq g group, get_or-set_same senders group None None lt, get_or-set_other senders group g None None)

-- ---- the headers that remain

pub apart_head : (h : Header) (hs : List Header) → AreApart (h ∷ hs) → (x : Header) → Contains hs x → x.group ≢ h.group
apart_head h hs apart x (k, lt, is) same = apart 0 (suc k) x (omega arith) (omega arith) (sym same ∙ ap (λ (y : Header). y.group) (sym is))

pub apart_tail : (h : Header) (hs : List Header) → AreApart (h ∷ hs) → AreApart hs
apart_tail h hs apart i j d before within = apart (suc i) (suc j) d (omega arith) (omega arith)

pub contains_head : {X : Type 0} (x : X) (xs : List X) → Contains (x ∷ xs) x
contains_head x xs = (0, omega arith, refl)

pub served_next : (h : Header) (hs : List Header) (senders : List (Option Sending))
    → AreServed (h ∷ hs) senders → AreServed hs (set senders h.group None)
served_next h hs senders served =
    let lt = has_place senders h.group (served.there h (contains_head h hs)) in
    record {
      apart = apart_tail h hs served.apart;
      there = λ x in_hs.
          let has = served.there x (Contains-append_right (h ∷ []) hs x in_hs) in
          (has.0, get_or-set_other senders h.group x.group None None (apart_head h hs served.apart x in_hs) ∙ has.1);
      ready = λ x s in_hs at. served.ready x s (Contains-append_right (h ∷ []) hs x in_hs) (was_there senders h.group lt x.group s at);
    }

-- the first headers have senders, if there are further ones

pub served_front : (hs gs : List Header) (senders : List (Option Sending)) → AreServed (hs ++ gs) senders → AreServed hs senders
served_front hs gs senders served = record {
  apart = λ i j d before within. grind (arith, places, served.apart i j d);
  there = λ h in_hs. served.there h (Contains-append_left hs gs h in_hs);
  ready = λ h s in_hs. served.ready h s (Contains-append_left hs gs h in_hs);
}

-- ---- further streams

module _ {X : Type 0} (P : X → Type 0) (xs ys : List X) (all : All P (xs ++ ys)) where
  pub all_front : All P xs
  all_front k d lt = subst P (get_or_append_left xs ys d k lt) (all k d (omega (arith, lt, length-append xs ys)))

  pub all_back : All P ys
  all_back k d lt = subst P (get_or-append-add xs ys k d) (all (length xs + k) d (omega (arith, lt, length-append xs ys)))

pub begun_append : (n : ℕ) (gs hs : List Header) (js ks : List (Option (List ℕ))) (xs ys : List Begun) → AreBegun n gs js xs → AreBegun (n + length xs) hs ks ys → AreBegun n (gs ++ hs) (js ++ ks) (xs ++ ys)
begun_append n gs hs js ks xs ys a b = record {
  placed = λ k d lt. grind (arith, places, cases_lt k (length xs), a.placed k d, b.placed (k - length xs) d);
  groups = rw (map-append (λ (x : Begun). x.sender.group) xs ys, a.groups, b.groups) (sym (map-append (λ (h : Header). h.group) gs hs));
  bytes = rw (map-append (λ (x : Begun). x.bytes) xs ys, a.bytes, b.bytes) refl;
}

pub none_begun : (n : ℕ) → AreBegun n [] [] []
none_begun n = record { placed = λ k d lt. absurd (omega (arith, lt)); groups = refl; bytes = refl }

pub one_begun : (n : ℕ) (h : Header) (b : Begun) → b.place ≡ n → b.sender.group ≡ h.group → AreBegun n (h ∷ []) (b.bytes ∷ []) (b ∷ [])
one_begun n h b place group = record {
  placed = λ k d lt. let first : k ≡ 0 = omega arith in rw first (omega (arith, place));
  groups = ap (λ (g : ℕ). g ∷ []) group;
  bytes = refl;
}

pub begun_count : (n : ℕ) (hs : List Header) (ks : List (Option (List ℕ))) (bs : List Begun) → AreBegun n hs ks bs → length bs ≡ length hs
begun_count n hs ks bs are = sym (length-map bs (λ (b : Begun). b.sender.group)) ∙ (ap length are.groups ∙ length-map hs (λ (h : Header). h.group))

pub placed_prefix : (bs : List Begun) (b : Begun) → ArePlaced 0 (bs ++ b ∷ []) → ArePlaced 0 bs × (b.place ≡ length bs)
placed_prefix bs b placed =
    (λ k d lt. grind (arith, places, placed k d), grind (arith, places, placed (length bs) b))

-- the ends are those of some streams, and of one more
pub one_end : {A : Type 0} (bs : List Begun) (es : List (Ended A)) (e : Ended A) → AreEndsOf bs (es ++ e ∷ []) → (cs : List Begun) × (b : Begun) × (bs ≡ cs ++ b ∷ []) × AreEndsOf cs es × IsEndOf b e.receipt e.fault
one_end [] [] e are = absurd are
one_end [] (x ∷ es) e are = absurd are
one_end (b ∷ []) [] e are = ([], b, refl, tt, are.0)
one_end (b ∷ c ∷ bs) [] e are = absurd are.1
one_end (b ∷ bs) (x ∷ es) e are =
    let r = one_end bs es e are.1 in
    (b ∷ r.0, r.1, ap (λ (l : List Begun). b ∷ l) r.2, (are.0, r.3), r.4)

abbrev some : List ℕ → Option (List ℕ)
some x = Some x

-- the inputs of some streams and of one more
pub one_input : (ks : List (Option (List ℕ))) (k : Option (List ℕ)) (inputs : List (List ℕ)) → ks ++ k ∷ [] ≡ map some inputs → (xs : List (List ℕ)) × (x : List ℕ) × (inputs ≡ xs ++ x ∷ []) × (ks ≡ map some xs) × (k ≡ Some x)
one_input [] k (x ∷ []) e = ([], x, refl, refl, cc)
one_input (o ∷ ks) k (y ∷ inputs) e =
    let r = one_input ks k inputs cc in
    (y ∷ r.0, r.1, cc (r.2), cc (r.3), r.4)
one_input _ k _ e = absurd cc

-- ---- lists

pub lists_more : (seen : List (List Event)) (xs : List (List ℕ)) (x : List ℕ) → lists_behind seen (xs ++ x ∷ []) ≡ and_one (lists_behind seen xs) (events_at (length seen + length xs) x)
unfolding lists_behind
lists_more seen [] x = rw add-zero refl
lists_more seen (b ∷ xs) x =
    elim (events_at (length seen) b) as (λ r. (r >>= λ es. lists_behind (seen ++ es ∷ []) (xs ++ x ∷ [])) ≡ and_one (r >>= λ es. lists_behind (seen ++ es ∷ []) xs) (events_at (length seen + suc (length xs)) x)) [
      | Err e ↦ refl
      | Ok es ↦
          let count : length seen + suc (length xs) ≡ length (seen ++ es ∷ []) + length xs = omega (arith, length-append seen (es ∷ [])) in
          rw count (lists_more (seen ++ es ∷ []) xs x)
    ]

-- The launch of streams that were sent.
use Rattle.gr_model.proofs.Common.{◌≡◌, ◌≢◌, ℕ, zero, suc, ◌<◌, cond, List, [], ◌∷◌, length, map, get_or, Contains, Option, None, Some, IfSome, slice_get, refl, sym, ap, ◌∙◌, subst, arith, eq-eqb, ne_eqb, range_with_len, cases_lt, get_or-map, get_or_past, length-map, All-cons, All-tail, Contains-append_right, get_or-map-range_with_len, length-map-range_with_len, IfSome_then, slice_get-get_or, slice_get_within, get_or_from_slice_get}
use Rattle.gr_detector.specs.Runs.{AreReceiptsOf, AreSendersOf, IsOfRun, IsSenderOf, Run, sent_by, sent_of}
use Rattle.gr_streams.specs.Types.{Event, Header}
use Rattle.gr_replay.specs.Each.{all_known}
use Rattle.gr_intake.specs.Joined.{Flat}
use Rattle.gr_intake.specs.Launch.{HasGroup, IsLaunchOf}
use Rattle.gr_route.specs.IntakeSeats.{Seat}
use Rattle.gr_threads.specs.Senders.{Sending}
use Rattle.gr_steps.proofs.Orders.{there_is}
use Rattle.gr_streams.specs.Headers.{AreApart, AreHeadersOf, bare, bares, streams_with}
use Rattle.gr_streams.specs.Sources.{AreKnown, AreOfRun, AreReceiptsFor, AreSenders, AreServed, Begun}
use Rattle.gr_streams.proofs.HeadingLemmas.{if_mapped}
use Rattle.gr_streams.proofs.JoinLemmas.{apart_head, apart_tail}

-- ---- senders

-- the size of a header's group
size_of : (hs : List Header) (sizes : List ℕ) → AreHeadersOf hs sizes → (h : Header) → Contains hs h → slice_get sizes h.group ≡ Some h.items
size_of hs sizes launch h (k, lt, is) =
    rw (← launch.2) (launch.1.each (bare h) (k, omega (arith, lt, length-map hs bare), get_or-map bare hs k h (bare h) lt ∙ ap bare is)).0

abbrev sender : Sending → Option Sending
sender s = Some s

abbrev pub places : List Sending → List (Option Sending)
places senders = map sender senders

module _ (run : Run) (senders : List Sending) (are : AreSendersOf run senders) where
  at_place : (g : ℕ) (s : Sending) → get_or (places senders) g None ≡ Some s → IsSenderOf run g s
  at_place g s at =
      let lt : g < length senders = grind (arith, cases_lt g (length senders), get_or_past (places senders) g None, length-map senders sender) in
      let is : get_or senders g s ≡ s = grind (arith, get_or-map sender senders g s None lt) in
      subst (IsSenderOf run g) is (are.each g s (omega (arith, lt, are.count)))

  pub of_run : AreSenders run (places senders)
  of_run g s at = let is = at_place g s at in subst (λ n. IsOfRun run n s.queue.queue) (sym is.group) is.of_run

  pub served : (hs : List Header) → AreApart hs → AreHeadersOf hs run.sizes → AreServed hs (places senders)
  served hs apart launch = record {
    apart = apart;
    there = λ h in_hs.
        let lt : h.group < length senders = omega (arith, slice_get_within run.sizes h.group h.items (size_of hs run.sizes launch h in_hs), are.count) in
        let at = there_is senders h.group lt in
        let here = get_or_from_slice_get senders h.group at.0 at.0 at.1 in
        (at.0, get_or-map sender senders h.group at.0 None lt ∙ ap sender here);
    ready = λ h s in_hs at.
        let is = at_place h.group s at in
        let items = is.items ∙ get_or_from_slice_get run.sizes h.group h.items 0 (size_of hs run.sizes launch h in_hs) in
        record { group = is.group; items = items; records = is.records; sent = is.sent };
  }

-- ---- receipts

pub cons_is : {X : Type 0} (x y : X) (xs ys : List X) → x ∷ xs ≡ y ∷ ys → (x ≡ y) × (xs ≡ ys)
cons_is x y xs ys e = (cc, cc)

pub receipts_of_run : (run : Run) (bs : List Begun) (rs : List Seat) → AreOfRun run bs → AreReceiptsFor bs rs → AreReceiptsOf run rs
receipts_of_run run bs [] all are = λ k d lt. absurd (omega (arith, lt))
receipts_of_run run [] (r ∷ rs) all are = absurd (omega (arith, ap length are.groups))
receipts_of_run run (b ∷ bs) (r ∷ rs) all are =
    let group : r.group ≡ b.sender.group = (cons_is _ _ _ _ are.groups).0 in
    let queue : r.queue ≡ b.sender.queue.queue = (cons_is _ _ _ _ are.queues).0 in
    All-cons (λ (x : Seat). IsOfRun run x.group x.queue) r rs (rw (group, queue) (all 0 b (omega arith)))
    (receipts_of_run run bs rs (All-tail (λ (x : Begun). IsOfRun run x.sender.group x.sender.queue.queue) b bs all) (record { groups = (cons_is _ _ _ _ are.groups).1; queues = (cons_is _ _ _ _ are.queues).1 }))

-- ---- streams

abbrev pub groups_of : List Seat → List ℕ
groups_of rs = map (λ (r : Seat). r.group) rs

abbrev pub header_groups : List Header → List ℕ
header_groups hs = map (λ (h : Header). h.group) hs

abbrev pushed_of : List Seat → List (List Event)
pushed_of rs = map (λ (r : Seat). r.pushed) rs

-- a stream with these records is of one of the headers, and has what was sent of its group
stream_sent : (hs : List Header) (rs : List Seat) → AreApart hs → groups_of rs ≡ header_groups hs → (f : Flat) → Contains (streams_with hs (pushed_of rs)) f → Contains hs f.header × (sent_of f.header.group rs ≡ f.events)
stream_sent [] rs apart same f (k, lt, is) = absurd (omega (arith, lt))
stream_sent (h ∷ hs) [] apart same f (k, lt, is) = absurd (omega (arith, lt))
stream_sent (h ∷ hs) (r ∷ rs) apart same f (zero, lt, is) =
    let head : h ≡ f.header = ap (λ (x : Flat). x.header) is in
    let group : r.group ≡ f.header.group = (cons_is _ _ _ _ same).0 ∙ ap (λ (x : Header). x.group) head in (
      (0, omega arith, head),
      ap (λ b. cond b r.pushed (sent_of f.header.group rs)) (eq-eqb r.group f.header.group group) ∙ ap (λ (x : Flat). x.events) is,
    )
stream_sent (h ∷ hs) (r ∷ rs) apart same f (suc k, lt, is) =
    let rest = stream_sent hs rs (apart_tail h hs apart) (cons_is _ _ _ _ same).1 f (k, omega (arith, lt), is) in
    let other : r.group ≢ f.header.group = λ e. apart_head h hs apart f.header rest.0 (sym e ∙ (cons_is _ _ _ _ same).0) in (
      Contains-append_right (h ∷ []) hs f.header rest.0,
      ap (λ b. cond b r.pushed (sent_of f.header.group rs)) (ne_eqb r.group f.header.group other) ∙ rest.1,
    )

header_there : (hs : List Header) (rs : List Seat) → groups_of rs ≡ header_groups hs → (h : Header) → Contains hs h → (f : Flat) × Contains (streams_with hs (pushed_of rs)) f × (f.header ≡ h)
header_there [] rs same h (k, lt, is) = absurd (omega (arith, lt))
header_there (x ∷ hs) [] same h in_hs = absurd (omega (arith, ap length same))
header_there (x ∷ hs) (r ∷ rs) same h (zero, lt, is) = (record { header = x; events = r.pushed }, (0, omega arith, refl), is)
header_there (x ∷ hs) (r ∷ rs) same h (suc k, lt, is) =
    let rest = header_there hs rs (cons_is _ _ _ _ same).1 h (k, omega (arith, lt), is) in
    (rest.0, Contains-append_right (record { header = x; events = r.pushed } ∷ []) (streams_with hs (pushed_of rs)) rest.0 rest.1, rest.2)

-- the header of a bare stream
pub header_in : (hs : List Header) (f : Flat) → Contains (bares hs) f → Contains hs f.header
header_in hs f (k, lt, is) =
    let below : k < length hs = omega (arith, lt, length-map hs bare) in
    (k, below, ap (λ (x : Flat). x.header) (sym (get_or-map bare hs k f.header f below) ∙ is))

pub launch_sent : (hs : List Header) (sizes : List ℕ) (rs : List Seat) → AreApart hs → AreHeadersOf hs sizes → groups_of rs ≡ header_groups hs → IsLaunchOf (streams_with hs (pushed_of rs)) (sent_by sizes rs)
launch_sent hs sizes rs apart launch same = record {
  count = length-map-range_with_len (λ g. sent_of g rs) 0 (length sizes);
  there = λ g lt.
      let has : HasGroup (bares hs) g = launch.1.there g (omega (arith, lt, ap length launch.2)) in
      let f = header_there hs rs same has.0.header (header_in hs has.0 has.1) in
      (f.0, f.1, ap (λ (x : Header). x.group) f.2 ∙ has.2);
  each = λ f in_seen.
      let sent = stream_sent hs rs apart same f in_seen in
      let size = size_of hs sizes launch f.header sent.0 in
      let lt = slice_get_within sizes f.header.group f.header.items size in
      let lists = map (λ g. sent_of g rs) (range_with_len 0 (length sizes)) in
      let there : f.header.group < length lists = omega (arith, lt, length-map-range_with_len (λ g. sent_of g rs) 0 (length sizes)) in
      (size, rw (slice_get-get_or lists f.header.group [] there, get_or-map-range_with_len (λ g. sent_of g rs) 0 (length sizes) f.header.group f.header.group [] lt (omega arith), sent.1) refl);
}

-- ---- known bytes

pub known_all : (ks ps : List (Option (List ℕ))) → AreKnown ks ps → IfSome (all_known ks) (λ inputs. ps ≡ map (λ x. Some x) inputs)
known_all [] [] known = refl
known_all (None ∷ ks) (p ∷ ps) known = tt
known_all (Some b ∷ ks) (p ∷ ps) known =
    if_mapped (λ xs. b ∷ xs) (λ xs. p ∷ ps ≡ map (λ x. Some x) xs) (all_known ks)
    (IfSome_then (all_known ks) (known_all ks ps known.1) (λ xs others i. known.0 i ∷ others i))
known_all _ _ known = absurd known

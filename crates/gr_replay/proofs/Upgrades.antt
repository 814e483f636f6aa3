-- Streams and what they are upgraded to are read as the same launch.
use mathlib.Core.List.{map-map}
use Rattle.gr_model.proofs.Common.{◌≡◌, ◌==◌, ◌||◌, not, list_any, ℕ, suc, ◌≤◌, Bool, List, [], ◌∷◌, ◌++◌, length, map, slice_get, Some, inl, inr, All, Result, Ok, Err, refl, sym, ap, ◌∙◌, subst, arith, append-nil, length-map, map_push, flat_map-map}
use Rattle.gr_model.specs.Prelude.{Streams}
use Rattle.gr_text.specs.Prelude.{Fault, Header, WholeStream, upgraded, upgraded_header, IsWhole, bytes_of, upgraded_stream}
use Rattle.gr_record.specs.Prelude.{AreBytes, events_spelling, front_records_at, stream_spelling}
use Rattle.gr_record.proofs.Places.{header_items}
use Rattle.gr_text.proofs.SpelledStreams.{events_before, header_before}
use Rattle.gr_text.proofs.UpgradedStreams.{twice, upgraded_are_streams}
use Rattle.gr_intake.specs.Joined.{Flat, ◌>>=◌, headers_in, joined_of}
use Rattle.gr_intake.specs.Launch.{IsLaunchOf}
use Rattle.gr_intake.proofs.Faults.{ok, same_ok}
use Rattle.gr_intake.proofs.Seen.{front_is}
use Rattle.gr_intake.proofs.Mapped.{mapped_from, mapped_there}
use Rattle.gr_replay.specs.Each.{ReadsEach, each_of}
use Rattle.gr_replay.specs.Laws.{AreUpgraded, siteless, SitesAreNotRead, SitesAreNotJudged, UpgradedAreOneLaunch, UpgradedHaveOneReport, UpgradedInputsAreOneLaunch, UpgradedInputsHaveOneReport}
use Rattle.gr_replay.proofs.Alone.{IsStreamOf, alone, checked}
use Rattle.gr_replay.proofs.JoinedInputs.{AreStreamsOf, all_checked, all_of, each_checked, each_is}
use Rattle.gr_replay.proofs.OneLaunch.{IsReadAs}

-- the same stream in version 2
abbrev up : Flat → Flat
up f = record { header = upgraded_header f.header; events = f.events }

-- ---- they are of the same groups and the same launch

abbrev one_up : Flat → Result Flat Fault
one_up f = Ok (up f)

abbrev pub all_up : List Flat → Result (List Flat) Fault
all_up fs = Ok (map up fs)

test_up : (test : Header → Bool) (seen : List Flat) → list_any test (headers_in (map up seen)) ≡ list_any (λ h. test (upgraded_header h)) (headers_in seen)
test_up test [] = refl
test_up test (f ∷ seen) = ap (λ b. test (upgraded_header f.header) || b) (test_up test seen)

checked_up : (seen : List Flat) (f : Flat) → checked (map up seen) (up f) ≡ checked seen f >>= one_up
checked_up seen f = grind (arith, test_up (λ s. s.group == f.header.group) seen, test_up (λ s. not (s.launch == f.header.launch)) seen, length-map)

all_checked_up : (seen fs : List Flat) → all_checked (map up seen) (map up fs) ≡ all_checked seen fs >>= all_up
all_checked_up seen [] = refl
all_checked_up seen (f ∷ fs) = grind (arith, checked_up seen f, all_checked_up (seen ++ f ∷ []) fs, map_push up seen f)

launch_up : (seen : List Flat) (s : Streams) → IsLaunchOf seen s → IsLaunchOf (map up seen) s
launch_up seen s launch = record {
  count = launch.count;
  there = λ g lt. let has = launch.there g lt in (up has.0, mapped_there up seen has.0 has.1, has.2);
  each = λ f in_seen.
      let has = mapped_from up seen f in_seen in
      subst (λ (x : Flat). (slice_get s.sizes x.header.group ≡ Some x.header.items) × (slice_get s.lists x.header.group ≡ Some x.events)) has.2 (launch.each has.0 has.1);
}

launch_down : (seen : List Flat) (s : Streams) → IsLaunchOf (map up seen) s → IsLaunchOf seen s
launch_down seen s launch = record {
  count = launch.count;
  there = λ g lt.
      let has = launch.there g lt in
      let below = mapped_from up seen has.0 has.1 in
      (below.0, below.1, ap (λ (x : Flat). x.header.group) below.2 ∙ has.2);
  each = λ f in_seen. launch.each (up f) (mapped_there up seen f in_seen);
}

-- what is read of streams is what is read of those that are the same in version 2
alike : (r q : Result (List Flat) Fault) (fs gs : List Flat) → r ≡ all_checked [] fs → q ≡ all_checked [] gs → map up fs ≡ map up gs → (s : Streams) → IsReadAs r s → IsReadAs q s
alike r q fs gs one other same s (seen, is, launch) =
    by_other q refl (sym (ap (λ (x : Result (List Flat) Fault). x >>= all_up) is) ∙ (up_of r fs one ∙ (ap (all_checked []) same ∙ sym (up_of q gs other))))
  where
    up_of : (x : Result (List Flat) Fault) (hs : List Flat) → x ≡ all_checked [] hs → x >>= all_up ≡ all_checked [] (map up hs)
    up_of x hs e = ap (λ (y : Result (List Flat) Fault). y >>= all_up) e ∙ sym (all_checked_up [] hs)

    by_other : (x : Result (List Flat) Fault) → q ≡ x → ok {E = Fault} (map up seen) ≡ x >>= all_up → IsReadAs q s
    by_other (Err e) is_x k = absurd cc
    by_other (Ok others) is_x k = (others, is_x, launch_down others s (subst (λ (l : List Flat). IsLaunchOf l s) (same_ok {E = Fault} (map up seen) (map up others) k) (launch_up seen s launch)))

-- ---- whole streams

abbrev pub spelled : WholeStream → List ℕ
spelled s = stream_spelling s.header s.records

pub whole_is : (s : WholeStream) → IsWhole s → IsStreamOf (spelled s) (siteless s)
whole_is s whole =
    let prefix = whole.prefix in
    let events = events_spelling s.header.version s.records in
    record {
      behind = events;
      header = header_before s.header events prefix.header;
      records = ap (front_records_at s.header) (sym (append-nil events)) ∙ events_before s.header (header_items s.header prefix.header) s.records [] prefix.runs whole.ended prefix.few;
    }

wholes_are : (ss : List WholeStream) → All IsWhole ss → AreStreamsOf (map spelled ss) (map siteless ss)
wholes_are [] whole = tt
wholes_are (s ∷ ss) whole = (whole_is s (whole 0 s (omega arith)), wholes_are ss (λ k d lt. whole (suc k) d (omega (arith, lt))))

wholes_read : (ss : List WholeStream) → All IsWhole ss → joined_of (bytes_of ss) ≡ all_checked [] (map siteless ss)
wholes_read ss whole = ap joined_of (sym (flat_map-map (λ (b : List ℕ). b) spelled ss)) ∙ all_of (map spelled ss) (map siteless ss) (wholes_are ss whole)

same_up : (ss ts : List WholeStream) → map upgraded_stream ss ≡ map upgraded_stream ts → map up (map siteless ss) ≡ map up (map siteless ts)
same_up ss ts same = simp map-map (simp map-map at (ap (map siteless) same))

-- ---- bytes

pub upgraded_are_one_launch : UpgradedAreOneLaunch
upgraded_are_one_launch bytes out s fits e =
    let w = upgraded_are_streams bytes out fits e in
    let ss = w.0 in
    let ts = map upgraded_stream ss in
    let fs = map siteless ss in
    let gs = map siteless ts in
    let one : joined_of bytes ≡ all_checked [] fs = ap joined_of w.2 ∙ wholes_read ss w.1 in
    let other : joined_of out ≡ all_checked [] gs = ap joined_of w.4 ∙ wholes_read ts w.3 in
    let same = same_up ss ts (sym (twice ss)) in
    (alike (joined_of bytes) (joined_of out) fs gs one other same s, alike (joined_of out) (joined_of bytes) gs fs other one (sym same) s)

-- ---- inputs

-- where the first are one stream, the others are the same in version 2
abbrev Goes : List ℕ → List ℕ → Type 0
Goes bytes out = (f : Flat) → IsStreamOf bytes f → (g : Flat) × IsStreamOf out g × (up f ≡ up g)

one_long : (s : WholeStream) (more : List ℕ) → 1 ≤ length (spelled s ++ more)
one_long s more = omega arith

wholes_go : (ss ts : List WholeStream) → All IsWhole ss → All IsWhole ts → map upgraded_stream ss ≡ map upgraded_stream ts → Goes (bytes_of ss) (bytes_of ts)
wholes_go [] ts whole also same f is = let long = (front_is [] f.header is.behind is.header).long in absurd (omega (arith, long))
wholes_go (s ∷ t ∷ ss) ts whole also same f is =
    let none = (alone (spelled s) (bytes_of (t ∷ ss)) (siteless s) f (whole_is s (whole 0 s (omega arith))) is).1 in
    absurd (omega (arith, ap length none, one_long t (bytes_of ss)))
wholes_go (s ∷ []) [] whole also same f is = absurd cc
wholes_go (s ∷ []) (t ∷ u ∷ ts) whole also same f is = absurd cc
wholes_go (s ∷ []) (t ∷ []) whole also same f is =
    let first : upgraded_stream s ≡ upgraded_stream t = cc in
    let one = (alone (spelled s) [] (siteless s) f (whole_is s (whole 0 s (omega arith))) is).0 in
    (siteless t, subst (λ (b : List ℕ). IsStreamOf b (siteless t)) (sym (append-nil (spelled t))) (whole_is t (also 0 t (omega arith))), sym (ap up one) ∙ ap siteless first)

abbrev AllGo : List (List ℕ) → List (List ℕ) → Type 0
AllGo [] [] = Unit {0}
AllGo (bytes ∷ inputs) (out ∷ outs) = Goes bytes out × AllGo inputs outs
AllGo [] (out ∷ outs) = ⊥
AllGo (bytes ∷ inputs) [] = ⊥

stays : (bytes out : List ℕ) → bytes ≡ out → Goes bytes out
stays bytes out same f is = (f, subst (λ (b : List ℕ). IsStreamOf b f) same is, refl)

one_goes : (bytes out : List ℕ) → AreBytes bytes → upgraded bytes ≡ Ok out → Goes bytes out × Goes out bytes
one_goes bytes out fits e =
    let w = upgraded_are_streams bytes out fits e in
    let ts = map upgraded_stream w.0 in
    let again = sym (twice w.0) in (
      subst (λ (b : List ℕ). Goes b out) (sym w.2) (subst (Goes (bytes_of w.0)) (sym w.4) (wholes_go w.0 ts w.1 w.3 again)),
      subst (λ (b : List ℕ). Goes b bytes) (sym w.4) (subst (Goes (bytes_of ts)) (sym w.2) (wholes_go ts w.0 w.3 w.1 (sym again))),
    )

all_go : (inputs outs : List (List ℕ)) → AreUpgraded inputs outs → AllGo inputs outs × AllGo outs inputs
all_go [] [] are = (tt, tt)
all_go [] (out ∷ outs) are = absurd are
all_go (bytes ∷ inputs) [] are = absurd are
all_go (bytes ∷ inputs) (out ∷ outs) (inl same, are) = let more = all_go inputs outs are in ((stays bytes out (sym same), more.0), (stays out bytes same, more.1))
all_go (bytes ∷ inputs) (out ∷ outs) (inr (fits, e), are) = grind (arith, one_goes, all_go inputs outs are)

streams_go : (inputs outs : List (List ℕ)) → AllGo inputs outs → (fs : List Flat) → AreStreamsOf inputs fs → (gs : List Flat) × AreStreamsOf outs gs × (map up fs ≡ map up gs)
streams_go [] [] go [] are = ([], tt, refl)
streams_go [] [] go (f ∷ fs) are = absurd are
streams_go [] (out ∷ outs) go fs are = absurd go
streams_go (bytes ∷ inputs) [] go fs are = absurd go
streams_go (bytes ∷ inputs) (out ∷ outs) go [] are = absurd are
streams_go (bytes ∷ inputs) (out ∷ outs) go (f ∷ fs) are =
    let one = go.0 f are.0 in
    let more = streams_go inputs outs go.1 fs are.1 in
    (one.0 ∷ more.0, (one.1, more.1), (λ i. one.2 i ∷ more.2 i))

launch_goes : (inputs outs : List (List ℕ)) (s : Streams) → AllGo inputs outs → ReadsEach inputs s → ReadsEach outs s
launch_goes inputs outs s go reads =
    let a = each_is inputs [] reads.0 reads.1 in
    let b = streams_go inputs outs go a.0 a.1 in
    alike (each_of inputs) (each_of outs) a.0 b.0 (each_checked inputs a.0 [] a.1) (each_checked outs b.0 [] b.1) b.2 s reads

pub upgraded_inputs_are_one_launch : UpgradedInputsAreOneLaunch
upgraded_inputs_are_one_launch inputs outs s are = let go = all_go inputs outs are in (launch_goes inputs outs s go.0, launch_goes outs inputs s go.1)

-- ---- sites

pub sites_are_not_read : SitesAreNotRead
sites_are_not_read ss ts whole also same = wholes_read ss whole ∙ ap (all_checked []) same ∙ sym (wholes_read ts also)

pub sites_are_not_judged : SitesAreNotJudged
sites_are_not_judged ss ts r whole also same = grind (arith, sites_are_not_read)

-- ---- reports

pub upgraded_have_one_report : UpgradedHaveOneReport
upgraded_have_one_report bytes out r fits e = (
  (λ x. record { launch = x.launch; spelled = (upgraded_are_one_launch bytes out x.launch fits e).0 x.spelled; accepted = x.accepted; exact = x.exact }),
  (λ x. record { launch = x.launch; spelled = (upgraded_are_one_launch bytes out x.launch fits e).1 x.spelled; accepted = x.accepted; exact = x.exact }),
)

pub upgraded_inputs_have_one_report : UpgradedInputsHaveOneReport
upgraded_inputs_have_one_report inputs outs r are = (
  (λ x. record { launch = x.launch; spelled = (upgraded_inputs_are_one_launch inputs outs x.launch are).0 x.spelled; accepted = x.accepted; exact = x.exact }),
  (λ x. record { launch = x.launch; spelled = (upgraded_inputs_are_one_launch inputs outs x.launch are).1 x.spelled; accepted = x.accepted; exact = x.exact }),
)

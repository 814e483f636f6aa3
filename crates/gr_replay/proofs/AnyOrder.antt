-- Inputs are the streams of a launch in whatever order.
use Rattle.gr_model.proofs.Common.{◌≡◌, ◌≢◌, ℕ, List, [], ◌∷◌, ◌++◌, map, get_or, All, AllPairs, Contains, IsPermutation, Result, Ok, Err, refl, sym, ap, ◌∙◌, subst, arith, append-nil, append_assoc, cases_lt, get_or_append_left, get_or_default, length-append, Contains-get_or, All-map, All-permutation, Contains-permutation, IsPermutation-map, IsPermutation-sym, get_or-append_seam}
use Rattle.gr_model.specs.Prelude.{Streams}
use Rattle.gr_text.specs.Types.{Fault, One}
use Rattle.gr_intake.specs.Joined.{Flat, headers_in}
use Rattle.gr_intake.specs.Launch.{AreApart, IsLaunchOf}
use Rattle.gr_intake.proofs.Accepted.{none_are}
use Rattle.gr_intake.proofs.Faults.{ok, same_ok}
use Rattle.gr_intake.proofs.Seen.{not_seen}
use Rattle.gr_replay.specs.Each.{only_stream_at}
use Rattle.gr_replay.specs.Laws.{InputsInAnyOrder, IsOneStream, ReportInAnyOrder}
use Rattle.gr_replay.proofs.Alone.{checked, only_on}
use Rattle.gr_replay.proofs.JoinedInputs.{AreStreamsOf, all_checked, all_one, each_are, each_checked, each_is, one_all}
use Rattle.gr_replay.proofs.Launching.{apart_permutation}

-- ---- streams in another order

-- each two are of one launch
abbrev AreOfOne : List Flat → Type 0
AreOfOne fs = AllPairs (λ f g. f.header.launch ≡ g.header.launch) fs

abbrev launch : Flat → ℕ
launch f = f.header.launch

one_at : (fs : List Flat) → AreOfOne fs → (x y : Flat) → Contains fs x → Contains fs y → launch x ≡ launch y
one_at fs one x y (p, lt, is) (q, gt, also) = grind (arith, get_or_default fs q x y gt, cases_lt p q, cases_lt q p)

module _ (fs gs : List Flat) (moved : IsPermutation fs gs) where
  back : (f : Flat) → Contains gs f → Contains fs f
  back f in_gs = Contains-permutation gs fs f (IsPermutation-sym fs gs moved) in_gs

  one_permutation : AreOfOne fs → AreOfOne gs
  one_permutation one = λ i j d before within.
      one_at fs one (get_or gs i d) (get_or gs j d) (back (get_or gs i d) (Contains-get_or gs i d (omega (arith, before, within)))) (back (get_or gs j d) (Contains-get_or gs j d within))

  launch_permutation : (s : Streams) → IsLaunchOf fs s → IsLaunchOf gs s
  launch_permutation s is = record {
    count = is.count;
    there = λ g lt. let has = is.there g lt in (has.0, Contains-permutation fs gs has.0 moved has.1, has.2);
    each = λ f in_gs. is.each f (back f in_gs);
  }

-- ---- what is checked, and when nothing is refused

all_are : (fs seen out : List Flat) → all_checked seen fs ≡ Ok out → out ≡ seen ++ fs
all_are [] seen out is = sym (same_ok {E = Fault} seen out is) ∙ sym (append-nil seen)
all_are (f ∷ fs) seen out is = grind (arith, all_are fs (seen ++ f ∷ []) out, append_assoc seen (f ∷ []) fs)

before_it : (R : Flat → Flat → Type 0) (seen : List Flat) (f : Flat) (fs : List Flat) → AllPairs R (seen ++ f ∷ fs) → All (λ s. R s f) seen
before_it R seen f fs pairs k d lt = grind (arith, length-append seen (f ∷ fs), get_or_append_left seen (f ∷ fs) d k lt, get_or-append_seam seen f fs d)

checked_one : (seen : List Flat) (f : Flat) → All (λ s. s.header.group ≢ f.header.group) seen → All (λ s. launch s ≡ launch f) seen → checked seen f ≡ Ok f
checked_one seen f other same = rw (not_seen (headers_in seen) f.header (All-map (λ s. s.group ≢ f.header.group) (λ s. s.header) seen other) (All-map (λ s. s.launch ≡ f.header.launch) (λ s. s.header) seen same)) refl

none_refused : (fs seen : List Flat) → AreApart (seen ++ fs) → AreOfOne (seen ++ fs) → all_checked seen fs ≡ Ok (seen ++ fs)
none_refused [] seen apart one = ap (ok {E = Fault}) (sym (append-nil seen))
none_refused (f ∷ fs) seen apart one =
    let regroup = append_assoc seen (f ∷ []) fs in
    let first = checked_one seen f (before_it (λ a b. a.header.group ≢ b.header.group) seen f fs apart) (before_it (λ a b. launch a ≡ launch b) seen f fs one) in
    let rest = none_refused fs (seen ++ f ∷ []) (subst AreApart (sym regroup) apart) (subst AreOfOne (sym regroup) one) in
    rw first (subst (λ (l : List Flat). all_checked (seen ++ f ∷ []) fs ≡ Ok l) regroup rest)

-- ---- inputs in another order

abbrev stream_in : Result Flat Fault → Flat
stream_in (Ok f) = f
stream_in (Err e) = record { header = record { version = One; group = 0; items = 0; launch = 0 }; events = [] }

abbrev stream_of : List ℕ → Flat
stream_of bytes = stream_in (only_stream_at [] bytes)

streams_are : (inputs : List (List ℕ)) (fs : List Flat) → AreStreamsOf inputs fs → map stream_of inputs ≡ fs
streams_are [] [] are = refl
streams_are [] (f ∷ fs) are = absurd are
streams_are (bytes ∷ inputs) [] are = absurd are
streams_are (bytes ∷ inputs) (f ∷ fs) are = grind (arith, only_on [] bytes f are.0, streams_are inputs fs are.1)

pub inputs_in_any_order : InputsInAnyOrder
inputs_in_any_order inputs others s order (seen, is, of) =
    let a = each_is inputs [] seen is in
    let fs = a.0 in
    let b = one_all others (All-permutation IsOneStream inputs others order (all_one inputs fs a.1)) in
    let gs = b.0 in
    let moved : IsPermutation fs gs = subst (λ (l : List Flat). IsPermutation l gs) (streams_are inputs fs a.1) (subst (IsPermutation (map stream_of inputs)) (streams_are others gs b.1) (IsPermutation-map stream_of inputs others order)) in
    let are = each_are inputs [] seen none_are is in
    let same : seen ≡ fs = all_are fs [] seen (sym (each_checked inputs fs [] a.1) ∙ is) in
    let all = none_refused gs [] (apart_permutation fs gs moved (subst AreApart same are.groups)) (one_permutation fs gs moved (subst AreOfOne same are.launch)) in
    (gs, each_checked others gs [] b.1 ∙ all, launch_permutation fs gs moved s (subst (λ (l : List Flat). IsLaunchOf l s) same of))

pub report_in_any_order : ReportInAnyOrder
report_in_any_order inputs others r order e = record { launch = e.launch; spelled = inputs_in_any_order inputs others e.launch order e.spelled; accepted = e.accepted; exact = e.exact }

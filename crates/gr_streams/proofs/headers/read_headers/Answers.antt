use Rattle.gr_model.proofs.Common.{◌≡◌, ◌≢◌, ◌∙◌, ◌++◌, ◌∷◌, [], ℕ, List, Ok, ap, arith, append_assoc, map, refl, rules, sym, into_iter_items, map-append, map_push, All-push, same_Some, err_from_is_err_and}
use Rattle.std.proofs.lemmas.List.Quantifiers.{all_pairs_push}
use Rattle.gr_record.specs.Prelude.{Fails}
use Rattle.gr_streams.specs.Types.{Header, Source}
use Rattle.gr_intake.specs.Joined.{header_after}
use Rattle.gr_streams.specs.Headers.{headers_behind, headers_of}
use Rattle.gr_streams.specs.Sources.{IsHeaded, known_of}
use Rattle.gr_streams.proofs.HeadingLemmas.{header_refused, known_so_far, one_more_header, one_more_known}
use Rattle.gr_streams.proofs.JoinLemmas.{all_yielded}
use Rattle.gr_streams.proofs.headers.read_headers.Goals as goal

pub loop-reader-init : goal.loop-reader-init
unfolding headers_behind
loop-reader-init g c =
    rw (c.new-headers.ensures, c.new-sources.ensures.items) (record {
      left = search rules;
      apart = λ i j d before within. absurd (omega arith);
      sources = refl;
      known = tt;
      headed = λ k d lt. absurd (omega arith);
      headers = refl;
    })

pub returns-in_err-source-clause-exact : goal.returns-in_err-source-clause-exact
returns-in_err-source-clause-exact g c =
    let inv = c.loop-reader.invariant in
    let rem = g.T.Read.remaining in
    let p = err_from_is_err_and c.from_residual.result c.from_residual.ensures.1 in
    let f = c.in_err-source.field-0.0 in
    let left = into_iter_items c.next.new.self in
    let items : into_iter_items c.loop-reader.reader-iterator ≡ c.in-Some.reader ∷ left = search rules in
    rw (p.1, p.2, ← inv.left, items, map-append rem c.loop-reader.yielded)
    (known_so_far (map rem c.loop-reader.yielded) (map rem left) (rem c.in-Some.reader)
    (λ inputs. headers_of inputs ≡ Ok c.loop-reader.headers)
    (λ bytes. Fails f (header_after c.loop-reader.headers bytes))
    (λ inputs. Fails f (headers_of inputs))
    inv.headers c.in_err-source.ensures.exact (λ xs b ys _ read fails. header_refused xs c.loop-reader.headers read b ys f fails))

pub loop-reader-preserved : goal.loop-reader-preserved
loop-reader-preserved g c =
    let inv = c.loop-reader.invariant in
    let rem = g.T.Read.remaining in
    let s = c.in_ok-source.source in
    let hs = c.loop-reader.headers in
    let left = into_iter_items c.next.new.self in
    let items : into_iter_items c.loop-reader.reader-iterator ≡ c.in-Some.reader ∷ left = search rules in
    rw (c.in_ok-headers.ensures, c.in_ok-keep.ensures) (record {
      left = rw (append_assoc, ← items) inv.left;
      apart = all_pairs_push (λ (g h : Header). g.group ≢ h.group) hs s.header inv.apart c.in_ok-source.ensures.follows.group;
      sources = map_push (λ (x : Source _). x.header) c.loop-reader.sources.items s ∙ ap (λ l. l ++ s.header ∷ []) inv.sources;
      known = rw (map_push rem c.loop-reader.yielded c.in-Some.reader, map_push (known_of rem) c.loop-reader.sources.items s) (one_more_known (map rem c.loop-reader.yielded) (map (known_of rem) c.loop-reader.sources.items) (rem c.in-Some.reader) (known_of rem s) inv.known c.in_ok-source.ensures.known);
      headed = All-push (λ (x : Source _). IsHeaded x.header x.prefix.items) c.loop-reader.sources.items s inv.headed c.in_ok-source.ensures.headed;
      headers = rw (map_push rem c.loop-reader.yielded c.in-Some.reader)
          (known_so_far (map rem c.loop-reader.yielded) [] (rem c.in-Some.reader)
          (λ inputs. headers_of inputs ≡ Ok hs)
          (λ bytes. (rest : List ℕ) × (header_after hs bytes ≡ Ok (s.header, rest)))
          (λ inputs. headers_of inputs ≡ Ok (hs ++ s.header ∷ []))
          inv.headers c.in_ok-source.ensures.header (λ xs b ys none read is. rw (← same_Some [] ys none) (one_more_header xs hs read b s.header is.0 is.1)));
    })

pub returns-clause-headers : goal.returns-clause-headers
returns-clause-headers g c =
    let left = c.loop-reader.reader-iterator in
    let all = all_yielded c.loop-reader.yielded (into_iter_items left) c.args.readers.items c.loop-reader.invariant.left (sym left.rest.ok.0 ∙ c.in-None.ensures.steps.0) in
    rw (← all) c.loop-reader.invariant.headers

pub returns-clause-known : goal.returns-clause-known
returns-clause-known g c =
    let left = c.loop-reader.reader-iterator in
    let all = all_yielded c.loop-reader.yielded (into_iter_items left) c.args.readers.items c.loop-reader.invariant.left (sym left.rest.ok.0 ∙ c.in-None.ensures.steps.0) in
    rw (← all) c.loop-reader.invariant.known

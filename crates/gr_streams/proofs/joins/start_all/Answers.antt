use Rattle.gr_model.proofs.Common.{◌≡◌, ◌∙◌, ◌+◌, ◌++◌, ◌∷◌, [], List, append_assoc, ap, arith, length, map, refl, rules, sym, into_iter_items, length-append, length-map, map-append, All-append}
use Rattle.gr_detector.specs.Runs.{IsOfRun}
use Rattle.gr_streams.specs.Types.{Header, Source}
use Rattle.gr_route.specs.Batches.{all_of}
use Rattle.gr_route.proofs.BatchLemmas.{all_of_push}
use Rattle.gr_streams.specs.Sources.{AreBegun, Begun, IsHeaded, known_of}
use Rattle.gr_streams.proofs.JoinLemmas.{all_back, all_front, all_joined, begun_append, begun_count, none_begun, served_front}
use Rattle.gr_streams.proofs.joins.start_all.Goals as goal

abbrev headers_in : {T : Type 0} → List (Source T) → List Header
headers_in sources = map (λ s. s.header) sources

pub loop-share-init : goal.loop-share-init
loop-share-init g c =
    let items : into_iter_items c.into_iter-share-iterator.result ≡ c.args.shares.items = search rules in
    rw (c.requires.room.none, items) (record {
      left = refl;
      headed = c.requires.headed;
      served = c.requires.senders;
      fewer = λ k x at. at;
      begun = none_begun 0;
      run = λ run senders k d lt. absurd (omega (arith, lt));
      place = refl;
      room = search rules;
    })

pub with_senders-streams-requires-clause-headed : goal.with_senders-streams-requires-clause-headed
with_senders-streams-requires-clause-headed g c =
    all_front (λ (x : Source _). IsHeaded x.header x.prefix.items) c.in-Some.share _ (rw c.in-Some.ensures.steps.0 at c.loop-share.invariant.headed)

pub with_senders-streams-requires-clause-senders : goal.with_senders-streams-requires-clause-senders
with_senders-streams-requires-clause-senders g c =
    served_front _ _ _ (rw (c.in-Some.ensures.steps.0, map-append (λ (s : Source _). s.header) c.in-Some.share) at c.loop-share.invariant.served)

-- the streams so far, and those of the next share, are no more than all
fits : {X : Type 0} (ys t : List X) (left rest : List (List X)) (all : List X) → ys ++ all_of left ≡ all → left ≡ t ∷ rest → length ys + length t + length (all_of rest) ≡ length all
fits ys t left rest all is next =
    omega (arith, ap length (rw next at is), length-append ys (t ++ all_of rest), length-append t (all_of rest))

pub with_senders-streams-requires-clause-places : goal.with_senders-streams-requires-clause-places
with_senders-streams-requires-clause-places g c =
    let inv = c.loop-share.invariant in
    omega (arith, inv.place, c.requires.places, fits (all_of c.loop-share.yielded) c.in-Some.share _ (into_iter_items c.next.new.self) _ inv.left c.in-Some.ensures.steps.0)

pub overflow_add-place : goal.overflow_add-place
overflow_add-place g c =
    let inv = c.loop-share.invariant in
    omega (arith, inv.place, c.len-in-loop-share.ensures, c.with_senders-streams.ensures.count, c.requires.places, fits (all_of c.loop-share.yielded) c.in-Some.share _ (into_iter_items c.next.new.self) _ inv.left c.in-Some.ensures.steps.0)

pub loop-share-preserved : goal.loop-share-preserved
loop-share-preserved g c =
    let inv = c.loop-share.invariant in
    let rem = g.T.Read.remaining in
    let t = c.in-Some.share in
    let rest = into_iter_items c.next.new.self in
    let items = c.in-Some.ensures.steps.0 in
    let before = all_of c.loop-share.yielded in
    let bs = all_of c.loop-share.threads.items in
    let more = c.start.result in
    let given = c.with_senders-streams.ensures in
    let pushed = c.push_reserved.ensures.items ∙ ap (λ (l : List (List Begun)). l ++ more ∷ []) c.make_way.ensures.items in
    let yielded = all_of_push c.loop-share.yielded t in
    let count : length bs ≡ length before = begun_count _ _ _ _ inv.begun ∙ length-map before (λ (x : Source _). x.header) in
    let at : c.loop-share.place ≡ 0 + length bs = omega (arith, inv.place, count) in
    let begun : AreBegun (0 + length bs) (headers_in t) (map (known_of rem) t) more = rw (← at, c.start.ensures) given.begun in
    record {
      left = ap (λ l. l ++ all_of rest) yielded ∙ (append_assoc before t (all_of rest) ∙ rw items at inv.left);
      headed = all_back (λ (x : Source _). IsHeaded x.header x.prefix.items) t (all_of rest) (rw items at inv.headed);
      served = given.left (headers_in (all_of rest)) (rw (items, map-append (λ (x : Source _). x.header) t) at inv.served);
      fewer = λ k x now. inv.fewer k x (given.fewer k x now);
      begun = rw (pushed, yielded, all_of_push c.loop-share.threads.items more, map-append (λ (x : Source _). x.header) before t, map-append (known_of rem) before t)
          (begun_append 0 (headers_in before) (headers_in t) (map (known_of rem) before) (map (known_of rem) t) bs more inv.begun begun);
      run = λ run senders.
          let of_run = given.run run (λ k x at. senders k x (inv.fewer k x at)) in
          rw (pushed, all_of_push c.loop-share.threads.items more) (All-append (λ (x : Begun). IsOfRun run x.sender.group x.sender.queue.queue) bs more (inv.run run senders) (rw c.start.ensures of_run));
      place = rw yielded (omega (arith, inv.place, c.len-in-loop-share.ensures, given.count, length-append before t));
      room = omega (arith, inv.room, c.in-Some.ensures.steps.1, c.push_reserved.ensures.len, c.push_reserved.ensures.capacity, c.make_way.ensures.len, c.make_way.ensures.capacity);
    }

pub returns-clause-begun : goal.returns-clause-begun
returns-clause-begun g c =
    let left = c.loop-share.share-iterator in
    let all = all_joined (all_of c.loop-share.yielded) (into_iter_items left) (all_of c.args.shares.items) c.loop-share.invariant.left (sym left.rest.ok.0 ∙ c.in-None.ensures.steps.0) in
    rw (← all) c.loop-share.invariant.begun

use Rattle.gr_model.proofs.Common.{◌≡◌, ◌∙◌, ◌++◌, ◌∷◌, [], List, append-nil, append_assoc, arith, length, map, rules, refl, subst, sym, into_iter_items, nil_from_length, length-map, length_push, map_push, All-head, All-nil, All-push, All-tail}
use Rattle.gr_detector.specs.Runs.{IsOfRun}
use Rattle.gr_streams.specs.Types.{Header, Source, Unread}
use Rattle.gr_streams.specs.Sources.{AreServed, Begun, IsHeaded, IsUnread, begun_of, known_of}
use Rattle.gr_streams.proofs.JoinLemmas.{begun_append, begun_count, contains_head, has_place, none_begun, one_begun, served_next, was_there}
use Rattle.gr_streams.proofs.share.Share.with_senders.Goals as goal

abbrev headers_in : {T : Type 0} → List (Source T) → List Header
headers_in sources = map (λ s. s.header) sources

pub loop-source-init : goal.loop-source-init
loop-source-init g c =
    let inside : into_iter_items c.into_iter-source-iterator.result ≡ c.self.inside.sources.items = search rules in
    let items = inside ∙ c.self.view_is in
    let room = c.self.invariant.0 in
    rw (room.none, items) (record {
      left = refl;
      headed = c.requires.headed;
      served = λ more served. served;
      fewer = λ k x at. at;
      unread = All-nil IsUnread;
      begun = none_begun c.args.place;
      run = λ run senders k d lt. absurd (omega (arith, lt));
      place = omega arith;
      count = room.empty;
      room = search rules;
    })

-- the first of the headers that are left has a sender
pub take_sender-sender-requires : goal.take_sender-sender-requires
take_sender-sender-requires g c =
    let served = rw c.in-Some.ensures.steps.0 at (c.loop-source.invariant.served [] (rw append-nil c.requires.senders)) in
    served.there c.in-Some.source.header (contains_head _ _)

pub loop-source-preserved : goal.loop-source-preserved
loop-source-preserved g c =
    let inv = c.loop-source.invariant in
    let rem = g.T.Read.remaining in
    let s = c.in-Some.source in
    let yielded = c.loop-source.yielded in
    let rest = into_iter_items c.next.new.self in
    let items = c.in-Some.ensures.steps.0 in
    let us = c.loop-source.unread.items in
    let old = c.loop-source.senders.items in
    let sender = c.take_sender-sender.result in
    let at = c.take_sender-sender.ensures.there in
    let served = rw items at (inv.served [] (rw append-nil c.requires.senders)) in
    let in_all = contains_head s.header (headers_in rest ++ []) in
    let headed = rw items at inv.headed in
    let is_ready = served.ready s.header sender in_all at in
    let u : Unread _ _ = record { place = c.loop-source.place; source = s; sender = sender } in
    let b : Begun = begun_of rem u in
    let pushed = c.push_reserved.ensures.items in
    let count : length (map (begun_of rem) us) ≡ length yielded = begun_count _ _ _ _ inv.begun ∙ length-map yielded (λ (x : Source _). x.header) in
    rw c.take_sender-sender.ensures.taken (record {
      left = rw (append_assoc, ← items) inv.left;
      headed = All-tail (λ (x : Source _). IsHeaded x.header x.prefix.items) s rest headed;
      served = λ more served. served_next s.header (headers_in rest ++ more) old (rw items at (inv.served more served));
      fewer = λ k x now. inv.fewer k x (was_there old s.header.group (has_place old s.header.group (served.there s.header in_all)) k x now);
      unread = rw pushed (All-push IsUnread us u inv.unread (record { headed = All-head (λ (x : Source _). IsHeaded x.header x.prefix.items) s rest headed; ready = is_ready }));
      begun = rw (pushed, map_push (λ (x : Source _). x.header) yielded s, map_push (known_of rem) yielded s, map_push (begun_of rem) us u)
          (begun_append c.args.place (headers_in yielded) (s.header ∷ []) (map (known_of rem) yielded) (known_of rem s ∷ []) (map (begun_of rem) us) (b ∷ []) inv.begun
          (one_begun _ s.header b (omega (arith, inv.place, count)) is_ready.group));
      run = λ run senders.
          let of_run : IsOfRun run sender.group sender.queue.queue = senders s.header.group sender (inv.fewer s.header.group sender at) in
          rw (pushed, map_push (begun_of rem) us u) (All-push (λ (x : Begun). IsOfRun run x.sender.group x.sender.queue.queue) (map (begun_of rem) us) b (inv.run run senders) of_run);
      place = omega (arith, inv.place, length_push yielded s);
      count = omega (arith, inv.count, length_push yielded s, c.push_reserved.ensures.len);
      room = omega (arith, inv.room, c.in-Some.ensures.steps.1, c.push_reserved.ensures.len, c.push_reserved.ensures.capacity);
    })

pub returns-clause-left : goal.returns-clause-left
returns-clause-left g c = λ more served.
    let left = c.loop-source.source-iterator in
    let none = nil_from_length (into_iter_items left) (sym left.rest.ok.0 ∙ c.in-None.ensures.steps.0) in
    subst (λ l. AreServed (headers_in l ++ more) c.loop-source.senders.items) none (c.loop-source.invariant.served more served)

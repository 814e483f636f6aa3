use Rattle.gr_model.proofs.Common.{◌≡◌, ◌++◌, All, IfSome, Ok, map, into_iter_items}
use Rattle.gr_replay.specs.Each.{all_known}
use Rattle.gr_streams.specs.Headers.{AreApart, headers_of}
use Rattle.gr_streams.specs.Sources.{AreKnown, IsHeaded, known_of}
use Rattle.gr_streams.proofs.headers.read_headers.Given as goal

-- what was read so far
abbrev pub invariant-loop-reader : goal.invariant-loop-reader
invariant-loop-reader g l = record {
  left : l.yielded ++ into_iter_items l.reader-iterator ≡ l.fn.readers.items;
  apart : AreApart l.headers;
  sources : map (λ s. s.header) l.sources.items ≡ l.headers;
  known : AreKnown (map g.T.Read.remaining l.yielded) (map (known_of g.T.Read.remaining) l.sources.items);
  headed : All (λ s. IsHeaded s.header s.prefix.items) l.sources.items;
  headers : IfSome (all_known (map g.T.Read.remaining l.yielded)) (λ inputs. headers_of inputs ≡ Ok l.headers);
}

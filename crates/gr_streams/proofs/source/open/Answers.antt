use Rattle.gr_model.proofs.Common.{◌≡◌, ◌++◌, ℕ, List, Ok, err_from_is_err_and, refl}
use Rattle.gr_intake.specs.Joined.{header_after}
use Rattle.gr_intake.proofs.Comings.{may_follow}
use Rattle.gr_intake.proofs.Seen.{after_more, front_is, is_after}
use Rattle.gr_streams.proofs.HeaderLemmas.{is_headed, refused_known}
use Rattle.gr_streams.proofs.ReadingLemmas.{of_known}
use Rattle.gr_streams.proofs.source.open.Goals as goal

pub returns-in_err-header-clause-exact : goal.returns-in_err-header-clause-exact
returns-in_err-header-clause-exact g c =
    let p = err_from_is_err_and c.from_residual-in_err-header.result c.from_residual-in_err-header.ensures.1 in
    rw (p.1, p.2) (refused_known _ _ c.in_ok-prefix.prefix.items c.in_ok-prefix.ensures.bytes c.args.seen.now c.in_ok-prefix.ensures.short c.in_err-header.field-0.0 (rw c.as_slice.ensures.value at c.in_err-header.ensures.exact))

pub returns-clause-header : goal.returns-clause-header
returns-clause-header g c =
    let prefix = c.in_ok-prefix.prefix.items in
    let seen = c.args.seen.now in
    let h = c.in_ok-header.header in
    let rest = c.in_ok-header._rest.now in
    let is : header_after seen prefix ≡ Ok (h, rest) = rw c.as_slice.ensures.value at c.in_ok-header.ensures.exact in
    let long = (front_is prefix h rest (is_after seen prefix h rest is).front).long in
    of_known _ _ prefix (λ bytes. (xs : List ℕ) × (header_after seen bytes ≡ Ok (h, xs))) c.in_ok-prefix.ensures.bytes (λ more. (rest ++ more, rw (after_more prefix more long seen, is) refl))

pub returns-clause-follows : goal.returns-clause-follows
returns-clause-follows g c = may_follow c.args.seen.now _ _ _ c.in_ok-header.ensures.exact c.in_ok-header.ensures.header

pub returns-clause-headed : goal.returns-clause-headed
returns-clause-headed g c =
    let is = rw c.as_slice.ensures.value at c.in_ok-header.ensures.exact in
    is_headed c.in_ok-prefix.prefix.items c.in_ok-header.header _ (rw c.as_slice.ensures.value at c.as_slice.ensures.fits) (is_after c.args.seen.now _ _ _ is).front

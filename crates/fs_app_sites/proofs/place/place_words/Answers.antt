use Rattle.std.proofs.Common.{◌≡◌, ◌∙◌, Err, ap, arith, false, refl, string_bytes, sym, true}
use Rattle.fs_app_place_and_order.proofs.Faults.{IfErr-handed}
use Rattle.fs_app_sites.specs.Place.{of_kinds}
use Rattle.fs_app_sites.proofs.PlaceFaults.{place-length, place-words}
use Rattle.fs_app_sites.proofs.Sites.{passed-asked}
use Rattle.fs_app_sites.proofs.place.place_words.Goals as goal

pub returns-in_err-kinds-clause-fault : goal.returns-in_err-kinds-clause-fault
returns-in_err-kinds-clause-fault c =
    IfErr-handed c.from_residual.result _ _ c.from_residual.ensures.1
    (λ is_free bytes prices asked. place-words is_free bytes prices _ _ _ _ _
    (passed-asked string_bytes is_free bytes _ _ _ _ _ refl c.deref.ensures prices _ asked)
    _ (λ e. c.in_err-kinds.ensures.bad_fence (ap (λ f. Err f) e)) c.in_err-kinds.ensures.err)

pub returns-then-not-are_offered-clause-fault : goal.returns-then-not-are_offered-clause-fault
returns-then-not-are_offered-clause-fault c = λ is_free bytes prices asked.
    let no : c.are_offered.result ≡ false = grind arith in
    of_kinds c.in_ok-kinds.kinds (passed-asked string_bytes is_free bytes _ _ _ _ _ refl c.deref.ensures prices _ asked)
    c.in_ok-kinds.ensures.ok (sym c.are_offered.ensures ∙ no)

pub returns-in_err-text-clause-fault : goal.returns-in_err-text-clause-fault
returns-in_err-text-clause-fault c =
    let yes : c.are_offered.result ≡ true = grind arith in
    IfErr-handed c.from_residual-in_err-text.result _ _ c.from_residual-in_err-text.ensures.1
    (λ is_free bytes prices asked. place-length is_free bytes prices _ _ _ _ _
    (passed-asked string_bytes is_free bytes _ _ _ _ _ c.deref-2.ensures c.deref.ensures prices _ asked)
    _ c.in_ok-kinds.kinds c.in_ok-kinds.ensures.ok (sym c.are_offered.ensures ∙ yes) c.in_err-text.ensures.err)

pub returns-clause-text : goal.returns-clause-text
returns-clause-text c =
    let yes : c.are_offered.result ≡ true = grind arith in
    λ is_free bytes prices asked. record {
      the_test = c.args.test;
      places = c.deref-2.result.now;
      names = _;
      offers = _;
      kinds = c.in_ok-kinds.kinds;
      asked = passed-asked string_bytes is_free bytes _ _ _ _ _ c.deref-2.ensures c.deref.ensures prices _ asked;
      put = c.in_ok-kinds.ensures.ok;
      fits = sym c.are_offered.ensures ∙ yes;
      is_short = c.in_ok-text.ensures.short;
      shown = c.in_ok-text.ensures.ok;
    }

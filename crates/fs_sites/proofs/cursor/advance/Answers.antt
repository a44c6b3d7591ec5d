use Rattle.std.proofs.Common.{◌≡◌, ◌<◌, ℕ, length, get_or, refl, subst, arith}
use Rattle.fs_sites.proofs.Placed.{begins-short}
use Rattle.fs_sites.proofs.Advancing.{its-offer, begins-before, same-before, follows-next}
use Rattle.fs_sites.proofs.cursor.advance.Goals as goal

pub loop-last-init : goal.loop-last-init
loop-last-init c = record {
  begins = c.requires;
  short = begins-short c.args.offers.now c.args.cursor.now.items c.requires;
  same = λ q fills. refl;
}

pub returns-in-Some-next_kind-clause-on : goal.returns-in-Some-next_kind-clause-on
returns-in-Some-next_kind-clause-on c on =
    let offers = c.args.offers.now in
    let cursor = c.pop.new.self.items in
    let o = c.index-offers-len.result in
    let less : length cursor < length offers = omega (arith, c.in-Some.ensures.len) in
    let there : c.len.result ≡ length cursor = omega (arith, c.len.ensures) in
    follows-next offers c.args.cursor.now.items c.loop-last.cursor.items cursor c.in-Some.last o
    c.in-Some-next_kind.kind c.push.new.self.items c.in-Some.ensures.items c.loop-last.invariant.begins
    (its-offer offers (length cursor) o less (subst (λ (n : ℕ). o ≡ get_or offers n o) there c.index-offers-len.is))
    c.in-Some-next_kind.ensures c.loop-last.invariant.same c.in_ok-push.ensures.items

pub loop-last-preserved : goal.loop-last-preserved
loop-last-preserved c =
    let offers = c.args.offers.now in
    let cursor = c.pop.new.self.items in
    let o = c.index-offers-len.result in
    let less : length cursor < length offers = omega (arith, c.in-Some.ensures.len) in
    let there : c.len.result ≡ length cursor = omega (arith, c.len.ensures) in
    let at = its-offer offers (length cursor) o less (subst (λ (n : ℕ). o ≡ get_or offers n o) there c.index-offers-len.is) in
    record {
      begins = begins-before offers c.args.cursor.now.items c.loop-last.cursor.items cursor c.in-Some.last o c.in-Some.ensures.items c.loop-last.invariant.begins;
      short = omega (arith, less);
      same = same-before offers c.args.cursor.now.items c.loop-last.cursor.items cursor c.in-Some.last o c.in-Some.ensures.items at
          c.in_default-next_kind.ensures c.loop-last.invariant.same;
    }

use Rattle.std.proofs.Common.{◌≡◌, ◌+◌, ◌<◌, ◌≤◌, ◌∙◌, ℕ, None, List, [], ◌∷◌, ◌++◌, length, get_or, subst, sym, ap, refl, arith}
use Rattle.fs_kinds.specs.declared.placement.Entry.{Entry}
use Rattle.fs_model_laws.proofs.Ranked.{entry_of}
use Rattle.fs_board_offers.specs.Offers.{Offer}
use Rattle.fs_sites.specs.Sinking.{Begins}
use Rattle.fs_sites.specs.Walks.{IsBestBefore, IsBestWith, IsEnd, Follows}
use Rattle.fs_sites.proofs.Placed.{begins-more, begins-short}
use Rattle.fs_sites.proofs.Advancing.{its-offer, one-longer}
use Rattle.fs_sites.proofs.Walking.{at-first, deeper, moved-on, at-end}
use Rattle.fs_sites.proofs.plan.first_breaking.Goals as goal

pub loop-init : goal.loop-init
loop-init c =
    let offers = c.args.offers.now in
    let empty = sym c.new-cursor.ensures.items in
    record {
      begins = subst (Begins offers) empty tt;
      short = subst (λ (p : List Entry). length p ≤ length offers) empty (omega arith);
      best = subst (λ (p : List Entry). IsBestBefore offers c.args.bars.now p None) empty
          (at-first offers c.as_slice-sites.ensures.are c.requires c.args.bars.now);
    }

pub loop-preserved-then-not-is_seen : goal.loop-preserved-then-not-is_seen
loop-preserved-then-not-is_seen c =
    let offers = c.args.offers.now in
    let cursor = c.loop.cursor.items in
    let o = c.index-sites-len.result in
    let here : c.deref-in-loop.result.now ≡ cursor = c.deref-in-loop.ensures.value in
    let less : length cursor < length offers =
    subst (λ (p : List Entry). length p < length offers) here (c.in_ok-is_seen.ensures.short c.if-not-is_seen.true) in
    let there : c.len.result ≡ length cursor = omega (arith, c.len.ensures) in
    let sites : c.as_slice-sites.result.now ≡ offers = c.as_slice-sites.ensures.value in
    let is : o ≡ get_or offers (length cursor) o =
    subst (λ (n : ℕ). o ≡ get_or offers n o) there (subst (λ (os : List Offer). o ≡ get_or os c.len.result o) sites c.index-sites-len.is) in
    let begins =
    begins-more offers cursor o (entry_of o.slot None) c.loop.invariant.begins (its-offer offers (length cursor) o less is) refl refl in
    let grown : c.push.new.self.items ≡ cursor ++ (entry_of o.slot None ∷ []) =
    c.in_ok-push.ensures.items ∙ ap (λ (e : Entry). cursor ++ (e ∷ [])) c.empty_at.ensures in
    let long : length c.push.new.self.items ≡ length cursor + 1 = ap length grown ∙ one-longer cursor (entry_of o.slot None) in
    record {
      begins = subst (Begins offers) (sym grown) begins;
      short = omega (arith, long, less);
      best = deeper offers c.as_slice-sites.ensures.are c.requires c.args.bars.now cursor c.push.new.self.items o.slot (entry_of o.slot None)
          c.in_ok-is_seen.found grown refl less
          (subst (λ (p : List Entry). IsBestBefore offers c.args.bars.now p c.in_ok-is_seen.found) here
          (c.in_ok-is_seen.ensures.before c.if-not-is_seen.true));
    }

pub returns-then-not-branch-clause-ok : goal.returns-then-not-branch-clause-ok
returns-then-not-branch-clause-ok c =
    let offers = c.args.offers.now in
    let cursor = c.loop.cursor.items in
    let here : c.deref-in-loop.result.now ≡ cursor = c.deref-in-loop.ensures.value in
    at-end offers c.as_slice-sites.ensures.are c.requires c.args.bars.now cursor c.in_ok-is_seen.found
    (subst (λ (os : List Offer). IsEnd os cursor) c.as_slice-sites.ensures.value (c.in_ok-advance.ensures.off c.if-not-branch.true))
    (subst (λ (p : List Entry). IsBestWith offers c.args.bars.now p c.in_ok-is_seen.found) here
    (c.in_ok-is_seen.ensures.seen c.if-not-is_seen.false))

pub loop-preserved : goal.loop-preserved
loop-preserved c =
    let offers = c.args.offers.now in
    let cursor = c.loop.cursor.items in
    let new = c.advance.new.cursor.items in
    let here : c.deref-in-loop.result.now ≡ cursor = c.deref-in-loop.ensures.value in
    let follows : Follows offers cursor new =
    subst (λ (os : List Offer). Follows os cursor new) c.as_slice-sites.ensures.value (c.in_ok-advance.ensures.on c.if-not-branch.false) in
    record {
      begins = follows.begins;
      short = begins-short offers new follows.begins;
      best = moved-on offers c.as_slice-sites.ensures.are c.requires c.args.bars.now cursor new c.in_ok-is_seen.found follows
          (subst (λ (p : List Entry). IsBestWith offers c.args.bars.now p c.in_ok-is_seen.found) here
          (c.in_ok-is_seen.ensures.seen c.if-not-is_seen.false));
    }

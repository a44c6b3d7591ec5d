use Rattle.std.proofs.Common.{◌<◌, ◌≤◌, sym, ap, ◌∙◌, subst, arith, length, Some}
use Rattle.std.specs.Prelude.{sum_by, count_by}
use Rattle.fs_instr.specs.Instructions.{is_memory}
use Rattle.fs_kinds.specs.FaultOrder.{IsFirst}
use Rattle.fs_litmus.specs.Faults.{IsFormFault}
use Rattle.fs_litmus.proofs.FormFaults.{handed, first_harts, first_code_limit, first_locations, first_depth, none_passed, no_form_fault}
use Rattle.fs_litmus_syntax.specs.Form.{form_of}
use Rattle.fs_litmus_syntax.specs.Grammar.{Syntax}
use Rattle.fs_litmus_syntax.specs.Answer.{Means}
use Rattle.fs_model.specs.Condition.{SpeaksOf}
use Rattle.fs_litmus.proofs.Interpreting.{IsMade, means, limits, bounded}
use Rattle.fs_litmus.proofs.meaning.within_limits.Goals as goal

made : (c : goal.In_ok-build) (s : Syntax) → Means c.args.condition.now s → IsMade (form_of c.args.form.now) s c.in_ok-build.field-0
made c s m =
    let kept = c.requires.codes in
    let short = c.in_ok-codes.ensures.codes kept.0 kept.2 in
    record {
      names = c.args.bindings.now.names.now;
      settings = c.args.bindings.now.settings.now;
      kept = c.args.kept.now;
      read = kept.0;
      are_codes = kept.1;
      codes = c.in_ok-build.ensures.codes ∙ short;
      within = c.in_ok-codes.ensures.within kept.0 kept.2;
      accesses = subst (λ cs. sum_by (count_by is_memory) cs ≤ 48) (sym c.in_ok-build.ensures.codes) c.in_ok-codes.ensures.accesses;
      harts = omega (arith, c.if-form-gt-MOST_HARTS.false);
      few = let n = c.len.ensures in omega (arith, c.if-len-gt-MOST_LOCATIONS.false, n);
      are_names = c.requires.named s m;
      are_settings = c.requires.set;
      starts = c.in_ok-build.ensures.starts;
      locations = c.in_ok-build.ensures.locations;
      quantifier = c.in_ok-build.ensures.quantifier;
      condition = let o = c.in_ok-outcome.ensures.value s m in record { depth = o.depth; means = o.means ∙ ap Some (sym c.in_ok-build.ensures.condition) };
      there = subst (λ x. SpeaksOf c.args.form.now.columns (length c.args.bindings.now.names.now) x) (sym c.in_ok-build.ensures.condition) c.in_ok-outcome.ensures.there;
    }

pub returns-clause-means : goal.returns-clause-means
returns-clause-means c = λ s m. means (form_of c.args.form.now) s c.in_ok-build.field-0 (made c s m)

pub returns-clause-limits : goal.returns-clause-limits
returns-clause-limits c = λ s m. limits (form_of c.args.form.now) s c.in_ok-build.field-0 (made c s m)

pub returns-clause-bounded : goal.returns-clause-bounded
returns-clause-bounded c = λ s m. bounded (form_of c.args.form.now) s c.in_ok-build.field-0 (made c s m)

-- ---- faults

pub returns-then-form-gt-MOST_HARTS-clause-first : goal.returns-then-form-gt-MOST_HARTS-clause-first
returns-then-form-gt-MOST_HARTS-clause-first c =
    λ _ s m. first_harts (form_of c.args.form.now) s c.requires.sound (c.requires.bound s m) (omega (arith, c.if-form-gt-MOST_HARTS.true))

pub returns-in_err-codes-clause-first : goal.returns-in_err-codes-clause-first
returns-in_err-codes-clause-first c =
    let kept = c.requires.codes in
    handed _ _ _ c.from_residual.ensures.1
    (λ other s m. first_code_limit (form_of c.args.form.now) s c.requires.sound (c.requires.bound s m) (omega (arith, c.if-form-gt-MOST_HARTS.false)) kept.0 kept.1 _
    (λ codes are. c.in_err-codes.ensures.first other codes (c.requires.only codes are)))

pub returns-then-len-gt-MOST_LOCATIONS-clause-first : goal.returns-then-len-gt-MOST_LOCATIONS-clause-first
returns-then-len-gt-MOST_LOCATIONS-clause-first c = λ _ s m.
    let n = c.len.ensures in
    first_locations (form_of c.args.form.now) s c.requires.sound (c.requires.bound s m) (omega (arith, c.if-form-gt-MOST_HARTS.false))
    (λ codes are. c.in_ok-codes.ensures.clean codes (c.requires.only codes are))
    (subst (λ names. 8 < length names) (c.requires.named s m) (omega (arith, c.if-len-gt-MOST_LOCATIONS.true, n)))

pub returns-in_err-outcome-clause-first : goal.returns-in_err-outcome-clause-first
returns-in_err-outcome-clause-first c =
    let n = c.len.ensures in
    handed _ _ _ c.from_residual-in_err-outcome.ensures.1
    (λ other s m.
    let form = form_of c.args.form.now in
    let deep = c.in_err-outcome.ensures.deep other s m (c.requires.there s m) in
    subst (IsFirst (IsFormFault form s)) (sym deep.0)
    (first_depth form s c.requires.sound (c.requires.bound s m) (omega (arith, c.if-form-gt-MOST_HARTS.false))
    (λ codes are. c.in_ok-codes.ensures.clean codes (c.requires.only codes are))
    (subst (λ names. length names ≤ 8) (c.requires.named s m) (omega (arith, c.if-len-gt-MOST_LOCATIONS.false, n)))
    deep.1))

pub returns-clause-clean : goal.returns-clause-clean
returns-clause-clean c = λ s m.
    let form = form_of c.args.form.now in
    let n = c.len.ensures in
    let outcome = c.in_ok-outcome.ensures.value s m in
    no_form_fault form s c.requires.sound (c.requires.bound s m)
    (none_passed form s (omega (arith, c.if-form-gt-MOST_HARTS.false))
    (λ codes are. c.in_ok-codes.ensures.clean codes (c.requires.only codes are))
    (subst (λ names. length names ≤ 8) (c.requires.named s m) (omega (arith, c.if-len-gt-MOST_LOCATIONS.false, n)))
    outcome.depth)

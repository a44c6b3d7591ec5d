use Rattle.std.proofs.Common.{◌∙◌, ℕ, Bool, List, ap, sym}
use Rattle.std.specs.Prelude.{map}
use Rattle.std.specs.List.{list_any, enumerate_from}
use Rattle.fs_model.specs.declared.test.Location.{Location}
use Rattle.fs_model.specs.declared.test.Test.{Test}
use Rattle.fs_region_refutation.specs.inner.Asked.{begins_so}
use Rattle.fs_region_refutation.proofs.Lists.{numbered_stop, numbered_go, numbered_end}
use Rattle.fs_region_refutation.proofs.filters.agrees_initially.Goals as goal

abbrev word : Location → ℕ
word location = location.word

-- the test of numbered words, over these locations
abbrev over : (ℕ × ℕ → Bool) → List Location → Bool
over test locations = list_any test (enumerate_from 0 (map word locations))

pub returns-then-loads_from : goal.returns-then-loads_from
returns-then-loads_from c =
    let test = begins_so c.args.load c.args.run.now.steps in
    sym (numbered_stop word test c.as_slice-location-items.result.now c.loop-number.number c.location-item.result c.loop-number-test.true
    c.location-item.is (sym c.loads_from.ensures ∙ c.if-loads_from.true))
    ∙ ap (over test) c.as_slice-location-items.ensures
    ∙ ap (λ (u : Test). over test u.locations) c.test.ensures.value

pub loop-number-preserved : goal.loop-number-preserved
loop-number-preserved c =
    numbered_go word (begins_so c.args.load c.args.run.now.steps) c.as_slice-location-items.result.now c.loop-number.number c.location-item.result
    c.loop-number-test.true c.location-item.is c.loop-number.invariant (sym c.loads_from.ensures ∙ c.if-loads_from.false)

pub returns : goal.returns
returns c =
    let test = begins_so c.args.load c.args.run.now.steps in
    sym (numbered_end word test c.as_slice-location-items.result.now c.loop-number.number c.loop-number-test.false c.loop-number.invariant)
    ∙ ap (over test) c.as_slice-location-items.ensures
    ∙ ap (λ (u : Test). over test u.locations) c.test.ensures.value

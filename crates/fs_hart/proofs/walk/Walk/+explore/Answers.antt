use Rattle.std.proofs.Common.{◌≡◌, ◌<◌, ◌≤◌, ◌+◌, None, Some, get_or, is_some, true, false, [], ◌∷◌, ◌++◌, length, take, refl, sym, ap, subst, ◌∙◌, arith}
use Rattle.std.specs.Prelude.{slice_get}
use Rattle.std.specs.Option.{option_to_list}
use Rattle.std.proofs.lemmas.Option.{slice_get_read}
use Rattle.fs_model.specs.Test.{GoesForward}
use Rattle.fs_model.specs.Trace.{after_step, hart_after, start_with}
use Rattle.fs_model.specs.Choices.{GoesAstray, Makes, StopsAt}
use Rattle.fs_model.specs.Execution.{code_of, registers_of}
use Rattle.std.proofs.lemmas.Bool.{false≢true}
use Rattle.fs_hart.specs.inner.Walking.{options, options_of, IsCut}
use Rattle.fs_hart.proofs.Adding.{Tries}
use Rattle.fs_hart.proofs.Along.{makes_later, code_forward, code_short, after_more}
use Rattle.fs_hart.proofs.Exploring.{Reads, tries_none, whole_explores, astray_explores, whole_cut, astray_cut, read_more, read_skipped, read_cut, read_all, handed, on_both, if_err}
use Rattle.fs_hart.proofs.Leading.{explores_led, cut_led, cut_back, led_on_path}
use Rattle.fs_hart.proofs.walk.Walk.+explore.Goals as goal
use Rattle.fs_hart.proofs.walk.Walk.+explore.Goals.{in-Ok+in_ok-push+in_ok-go_on+in_ok-explore, in_default-step}

pub loop-number-init : goal.loop-number-init
loop-number-init t c = tries_none c.args.test.now c.args.hart c.args.sets.now c.args.state.now c.args.self.now

pub returns-then-from-code-clause-err : goal.returns-then-from-code-clause-err
returns-then-from-code-clause-err t c =
    let past : length (code_of c.args.test.now c.args.hart) ≤ c.args.state.now.at = (let e = ap length c.code_of-code.ensures in omega arith) in
    if_err _ _ c.end_whole.result c.end_whole.ensures.err (λ fault e. whole_cut c.args.test.now c.args.hart c.args.sets.now c.args.state.now c.args.self.now.ends fault past e)

pub returns-then-from-code-clause-ok : goal.returns-then-from-code-clause-ok
returns-then-from-code-clause-ok t c =
    let past : length (code_of c.args.test.now c.args.hart) ≤ c.args.state.now.at = (let e = ap length c.code_of-code.ensures in omega arith) in
    on_both _ _ _ c.end_whole.result c.end_whole.ensures.ends c.end_whole.ensures.traces
    (λ e r. whole_explores c.args.test.now c.args.hart c.args.sets.now c.args.state.now c.args.self.now c.end_whole.new.self past c.requires.on_path c.end_whole.ensures.path c.end_whole.ensures.astray e r)

pub returns-in_default-clause-ok : goal.returns-in_default-clause-ok
returns-in_default-clause-ok t c =
    let h = c.args.state.now in
    let code = c.code_of-code.result.now in
    let i = c.index-code-from.result in
    let e : slice_get code h.at ≡ Some i = slice_get_read code (length code) h.at i refl (omega arith) (grind (arith, c.index-code-from.is)) in
    let at : slice_get (code_of c.args.test.now c.args.hart) h.at ≡ Some i = subst (λ xs. slice_get xs h.at ≡ Some i) c.code_of-code.ensures e in
    let g : GoesAstray (length c.args.test.now.locations) h i = subst (λ ls. GoesAstray (length ls) h i) c.as_slice.ensures (c.words_at.ensures.astray.0 (ap is_some c.in_default.is)) in
    on_both _ _ _ c.end_astray.result c.end_astray.ensures.ends c.end_astray.ensures.astray
    (λ n a. astray_explores c.args.test.now c.args.hart c.args.sets.now h i c.args.self.now c.end_astray.new.self at g c.end_astray.ensures.path c.end_astray.ensures.traces a n)

pub explore-requires : goal.explore-requires
explore-requires t c =
    let h = c.args.state.now in
    let code = c.code_of-code.result.now in
    let forward : GoesForward code = subst GoesForward (sym c.code_of-code.ensures) (code_forward c.args.test.now c.args.hart c.requires.test.forward c.requires.hart) in
    let i = c.index-code-from.result in
    let e : slice_get code h.at ≡ Some i = slice_get_read code (length code) h.at i refl (omega arith) (grind (arith, c.index-code-from.is)) in
    let later = makes_later _ code h i _ c.in-Ok.step forward (omega arith) e c.in-Ok.ensures.ok in
    let there : c.take.new.self.at ≡ (after_step h c.in-Ok.step).at = ap (λ g. g.at) c.take.ensures in
    let size : length code ≡ length (code_of c.args.test.now c.args.hart) = ap length c.code_of-code.ensures in
    let path : c.push.new.self.items ≡ c.args.self.now.path.items ++ c.in-Ok.step ∷ [] = c.in_ok-push.ensures.items ∙ ap (λ xs. xs ++ c.in-Ok.step ∷ []) c.loop-number.invariant.adds.path in
    let led = c.in_ok-go_on.ensures.leads in
    let here : c.take.new.self ≡ hart_after (start_with (registers_of c.args.test.now c.args.hart)) c.push.new.self.items
    = c.take.ensures ∙ ap (λ g. after_step g c.in-Ok.step) c.requires.on_path ∙ sym (after_more _ c.args.self.now.path.items c.in-Ok.step) ∙ ap (hart_after _) (sym path) in
    let on_path = led_on_path _ code _ c.take.new.self c.go_on.new.state _ c.go_on.new.self led here in
    let far = led.later in
    let inside = led.inside in
    (omega (arith, c.decreases), (c.requires.test, (c.requires.hart, (c.requires.sets, (omega arith, on_path)))))

pub go_on-requires : goal.go_on-requires
go_on-requires t c =
    let h = c.args.state.now in
    let code = c.code_of-code.result.now in
    let forward : GoesForward code = subst GoesForward (sym c.code_of-code.ensures) (code_forward c.args.test.now c.args.hart c.requires.test.forward c.requires.hart) in
    let i = c.index-code-from.result in
    let e : slice_get code h.at ≡ Some i = slice_get_read code (length code) h.at i refl (omega arith) (grind (arith, c.index-code-from.is)) in
    let later = makes_later _ code h i _ c.in-Ok.step forward (omega arith) e c.in-Ok.ensures.ok in
    let there : c.take.new.self.at ≡ (after_step h c.in-Ok.step).at = ap (λ g. g.at) c.take.ensures in
    let short : length (code_of c.args.test.now c.args.hart) ≤ 32 = code_short c.args.test.now c.args.hart c.requires.test c.requires.hart in
    let size : length code ≡ length (code_of c.args.test.now c.args.hart) = ap length c.code_of-code.ensures in
    record { short = omega arith; forward = forward; at = (let inside = later.1 in omega arith) }

pub returns-in_default-clause-err : goal.returns-in_default-clause-err
returns-in_default-clause-err t c =
    let h = c.args.state.now in
    let code = c.code_of-code.result.now in
    let i = c.index-code-from.result in
    let e : slice_get code h.at ≡ Some i = slice_get_read code (length code) h.at i refl (omega arith) (grind (arith, c.index-code-from.is)) in
    let at : slice_get (code_of c.args.test.now c.args.hart) h.at ≡ Some i = subst (λ xs. slice_get xs h.at ≡ Some i) c.code_of-code.ensures e in
    let g : GoesAstray (length c.args.test.now.locations) h i = subst (λ ls. GoesAstray (length ls) h i) c.as_slice.ensures (c.words_at.ensures.astray.0 (ap is_some c.in_default.is)) in
    if_err _ _ c.end_astray.result c.end_astray.ensures.err (λ fault m. astray_cut c.args.test.now c.args.hart c.args.sets.now h i c.args.self.now.ends fault at g m)

pub returns-in_err-explore-clause-err : goal.returns-in_err-explore-clause-err
returns-in_err-explore-clause-err t c =
    let h = c.args.state.now in
    let code = c.code_of-code.result.now in
    let i = c.index-code-from.result in
    let e : slice_get code h.at ≡ Some i = slice_get_read code (length code) h.at i refl (omega arith) (grind (arith, c.index-code-from.is)) in
    let at : slice_get (code_of c.args.test.now c.args.hart) h.at ≡ Some i = subst (λ xs. slice_get xs h.at ≡ Some i) c.code_of-code.ensures e in
    let items = options_of c.in-Some.words.now i in
    let listed : items ≡ options c.args.sets.now h i = rw c.in-Some.is at c.words_at.ensures.some in
    let r : Reads c.args.test.now c.args.hart c.args.sets.now h (length c.as_slice.result.now) items i = record { at = at; options_are = listed; locations = ap length c.as_slice.ensures } in
    let makes : Makes (length c.as_slice.result.now) h i (get_or items c.loop-number.number None) c.in-Ok.step = subst (λ o. Makes (length c.as_slice.result.now) h i o c.in-Ok.step) c.option_at-choice.ensures c.in-Ok.ensures.ok in
    let fault = c.in_err-explore.field-0.0 in
    let next : IsCut c.args.test.now c.args.hart c.args.sets.now c.take.new.self c.loop-number.self.ends fault
    = cut_led c.args.test.now c.args.hart c.args.sets.now _ code c.take.new.self c.go_on.new.state _ c.go_on.new.self fault (ap length c.as_slice.ensures) c.code_of-code.ensures c.in_ok-go_on.ensures.leads c.in_err-explore.ensures.err in
    let below = subst (λ g. IsCut c.args.test.now c.args.hart c.args.sets.now g c.loop-number.self.ends fault) c.take.ensures next in
    handed c.from_residual-in_err-explore.result c.in_err-explore.field-0.0 _ c.from_residual-in_err-explore.ensures.1
    (read_cut c.args.test.now c.args.hart c.args.sets.now h _ items i c.loop-number.number c.in-Ok.step c.args.self.now c.loop-number.self c.in_err-explore.field-0.0 r c.requires.sets (omega arith) makes c.loop-number.invariant below)

pub returns-clause-ok : goal.returns-clause-ok
returns-clause-ok t c =
    let h = c.args.state.now in
    let code = c.code_of-code.result.now in
    let i = c.index-code-from.result in
    let e : slice_get code h.at ≡ Some i = slice_get_read code (length code) h.at i refl (omega arith) (grind (arith, c.index-code-from.is)) in
    let at : slice_get (code_of c.args.test.now c.args.hart) h.at ≡ Some i = subst (λ xs. slice_get xs h.at ≡ Some i) c.code_of-code.ensures e in
    let items = options_of c.in-Some.words.now i in
    let listed : items ≡ options c.args.sets.now h i = rw c.in-Some.is at c.words_at.ensures.some in
    let r : Reads c.args.test.now c.args.hart c.args.sets.now h (length c.as_slice.result.now) items i = record { at = at; options_are = listed; locations = ap length c.as_slice.ensures } in
    let on : GoesAstray (length c.as_slice.result.now) h i → ⊥ = λ g. (let none : is_some c.words_at.result ≡ false = c.words_at.ensures.astray.1 g in let some : is_some c.words_at.result ≡ true = ap is_some c.in-Some.is in false≢true (sym none ∙ some)) in
    read_all c.args.test.now c.args.hart c.args.sets.now h _ items i c.loop-number.number c.args.self.now c.loop-number.self r on (omega arith) c.loop-number.invariant

pub loop-number-preserved : goal.loop-number-preserved
loop-number-preserved t c =
    let h = c.args.state.now in
    let code = c.code_of-code.result.now in
    let i = c.index-code-from.result in
    let e : slice_get code h.at ≡ Some i = slice_get_read code (length code) h.at i refl (omega arith) (grind (arith, c.index-code-from.is)) in
    let at : slice_get (code_of c.args.test.now c.args.hart) h.at ≡ Some i = subst (λ xs. slice_get xs h.at ≡ Some i) c.code_of-code.ensures e in
    let items = options_of c.in-Some.words.now i in
    let listed : items ≡ options c.args.sets.now h i = rw c.in-Some.is at c.words_at.ensures.some in
    let r : Reads c.args.test.now c.args.hart c.args.sets.now h (length c.as_slice.result.now) items i = record { at = at; options_are = listed; locations = ap length c.as_slice.ensures } in
    let mid = c.loop-number.self in
    let inside : c.loop-number.number < length items = omega arith in
    elim c.match-step.branch [
      | in-Ok+in_ok-push+in_ok-go_on+in_ok-explore w ↦ (
          let makes : Makes (length c.as_slice.result.now) h i (get_or items c.loop-number.number None) w.in-Ok.step = subst (λ o. Makes (length c.as_slice.result.now) h i o w.in-Ok.step) c.option_at-choice.ensures w.in-Ok.ensures.ok in
          let pushed : w.push.new.self.items ≡ mid.path.items ++ w.in-Ok.step ∷ [] = w.in_ok-push.ensures.items in
          let led = w.in_ok-go_on.ensures.leads in
          let grown = w.explore.new.self in
          let depth : c.len-depth.result ≡ length mid.path.items = (let same = ap length c.loop-number.invariant.adds.path in let size = c.args.self.now.path.ok.0 in omega arith) in
          let back : c.match-step.self.path.items ≡ mid.path.items =
          ap (λ x. x.path.items) w.self-is ∙ cut_back _ mid.path.items grown.path.items w.truncate.new.self.items w.push.new.self.items w.in-Ok.step led.steps depth pushed (w.in_ok-explore.ensures.ok.adds.path ∙ led.path) w.truncate.ensures.items in
          let found = explores_led c.args.test.now c.args.hart c.args.sets.now _ code w.take.new.self w.go_on.new.state _ w.go_on.new.self grown (ap length c.as_slice.ensures) c.code_of-code.ensures led w.in_ok-explore.ensures.ok in
          read_more c.args.test.now c.args.hart c.args.sets.now h _ items i c.loop-number.number w.in-Ok.step c.args.self.now mid _ _ c.match-step.self w.take.new.self r c.requires.sets inside makes c.loop-number.invariant
          pushed refl refl refl w.take.ensures found back (ap (λ x. x.traces.items) w.self-is) (ap (λ x. x.ends) w.self-is) (ap (λ x. x.astray) w.self-is))
      | in_default-step w ↦ (
          let stops : StopsAt (length c.as_slice.result.now) h i (option_to_list (get_or items c.loop-number.number None)) w.in_default-step.field-0
          = rw c.option_at-choice.ensures at (rw w.in_default-step.is at c.step.ensures.err) in
          subst (λ x. Tries c.args.test.now c.args.hart c.args.sets.now h (take (c.loop-number.number + 1) items) c.args.self.now x) (sym w.self-is)
          (read_skipped c.args.test.now c.args.hart c.args.sets.now h _ items i c.loop-number.number w.in_default-step.field-0 c.args.self.now mid r inside stops c.loop-number.invariant))
    ]

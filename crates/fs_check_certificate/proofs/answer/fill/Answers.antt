use Rattle.std.proofs.Common.{◌≡◌, true, false, map, string_bytes, sym, ◌∙◌, subst, arith}
use Rattle.std.proofs.lemmas.Bool.{false≢true}
use Rattle.std.proofs.lemmas.List.{drop_more, length-map}
use Rattle.fs_check_certificate.proofs.Filled.{Going, begin, put, refuse, skip, has_it, whole, left}
use Rattle.fs_check_certificate.proofs.answer.fill.Goals.{in-Some+else-not-is_offered+in-Ok, in_default}
use Rattle.fs_check_certificate.proofs.answer.fill.Goals as goal

pub loop-slot-init : goal.loop-slot-init
loop-slot-init c =
    let words = map string_bytes c.args.words.now in
    subst (Going c.args.offers.now c.args.slots.now words 0 0) (sym c.requires.empty) (begin c.args.offers.now c.args.slots.now words)

pub returns-then-not-is_offered : goal.returns-then-not-is_offered
returns-then-not-is_offered c =
    let offers = c.args.offers.now in
    let all = c.args.slots.now in
    let words = map string_bytes c.args.words.now in
    let refused : c.is_offered.result ≡ false = grind (arith, c.if-not-is_offered.true) in
    refuse offers all words c.requires.rising c.requires.small c.loop-slot.slot-index c.loop-slot.used _ c.loop-slot.placement c.loop-slot.invariant
    (drop_more all c.loop-slot.slot-index _ c.loop-slot-test.true) c.in-Some.kind c.in-Some.ensures.named (sym c.is_offered.ensures ∙ refused)

pub returns-then-used-words : goal.returns-then-used-words
returns-then-used-words c =
    let words = map string_bytes c.args.words.now in
    whole c.args.offers.now c.args.slots.now words c.loop-slot.slot-index c.loop-slot.used c.loop-slot.placement c.loop-slot.invariant
    (omega (arith, c.loop-slot-test.false)) (omega (arith, c.if-used-words.true, length-map c.args.words.now string_bytes))

pub returns-else-used-words : goal.returns-else-used-words
returns-else-used-words c =
    let words = map string_bytes c.args.words.now in
    left c.args.offers.now c.args.slots.now words c.loop-slot.slot-index c.loop-slot.used c.loop-slot.placement c.loop-slot.invariant
    (omega (arith, c.loop-slot-test.false)) (λ e. omega (arith, e, c.if-used-words.false, length-map c.args.words.now string_bytes))

pub returns-in-Err : goal.returns-in-Err
returns-in-Err c =
    let all = c.args.slots.now in
    let words = map string_bytes c.args.words.now in
    absurd (false≢true (sym c.in-Err.ensures.lacking ∙ has_it c.args.offers.now all words c.requires.rising c.requires.small c.loop-slot.slot-index c.loop-slot.used _
    c.loop-slot.placement c.loop-slot.invariant (drop_more all c.loop-slot.slot-index _ c.loop-slot-test.true)))

pub loop-slot-preserved : goal.loop-slot-preserved
loop-slot-preserved c =
    let offers = c.args.offers.now in
    let all = c.args.slots.now in
    let words = map string_bytes c.args.words.now in
    let i = c.loop-slot.slot-index in
    elim c.match-kind_at.branch [
      | in-Some+else-not-is_offered+in-Ok w ↦
          let is : w.is_offered.result ≡ true = grind (arith, w.if-not-is_offered.false) in
          let at = drop_more all i _ c.loop-slot-test.true in
          rw (w.placement-is, w.used-is, w.in-Ok.ensures.changed)
          (put offers all words c.requires.rising c.requires.small i c.loop-slot.used _ c.loop-slot.placement c.loop-slot.invariant at w.in-Some.kind w.in-Some.ensures.named (sym w.is_offered.ensures ∙ is))
      | in_default w ↦ rw (w.placement-is, w.used-is)
          (skip offers all words c.requires.rising c.requires.small i c.loop-slot.used _ c.loop-slot.placement c.loop-slot.invariant
          (drop_more all i _ c.loop-slot-test.true) w.in_default.ensures.none)
    ]

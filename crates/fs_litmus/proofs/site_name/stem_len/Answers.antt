use Rattle.std.proofs.Common.{◌-◌, slice_index, sym, ap, ◌∙◌, arith}
use Rattle.std.proofs.lemmas.Str.{IsCharBoundary-before_ascii}
use Rattle.fs_litmus.specs.SiteName.{is_copy_byte}
use Rattle.fs_litmus.proofs.Stems.{stem_shorter, stem_taken, copy_is_ascii}
use Rattle.fs_litmus.proofs.site_name.stem_len.Goals as goal

pub returns-then-not-is_copy_byte-clause-value : goal.returns-then-not-is_copy_byte-clause-value
returns-then-not-is_copy_byte-clause-value c =
    let last = c.loop-len.len - 1 in
    let is = ap (λ l. is_copy_byte (slice_index l last)) (sym c.as_bytes-bytes.ensures.value) ∙ sym c.is_copy_byte.ensures ∙ c.if-not-is_copy_byte.true in
    sym (stem_taken c.args.word.now last c.loop-len.len (omega arith) (omega arith) is) ∙ c.loop-len.invariant.same

pub loop-len-preserved : goal.loop-len-preserved
loop-len-preserved c =
    let last = c.loop-len.len - 1 in
    let is = ap (λ l. is_copy_byte (slice_index l last)) (sym c.as_bytes-bytes.ensures.value) ∙ sym c.is_copy_byte.ensures ∙ c.if-not-is_copy_byte.false in
    record {
      within = omega arith;
      same = sym (stem_shorter c.args.word.now last c.loop-len.len (omega arith) (omega arith) is) ∙ c.loop-len.invariant.same;
      boundary = IsCharBoundary-before_ascii c.args.word.now last (omega arith) (copy_is_ascii _ is);
    }

use Rattle.std.proofs.Common.{map, take, ap, sym, subst, arith}
use Rattle.fs_cert_evidence.specs.Evidence.{Shown, witness_in}
use Rattle.fs_cert.specs.inner.Copies.{IsNumbering}
use Rattle.fs_cert.proofs.Copying.{numbering_next, mapped_next}
use Rattle.fs_cert.proofs.numbered.number_all.Goals as goal

pub loop-witness-preserved : goal.loop-witness-preserved
loop-witness-preserved c =
    let xs = c.args.witnesses.now in
    let i = c.loop-witness.witness-index in
    let item = c.witness-item.result in
    let w = c.deref.result.now.witness in
    record {
      numbers = subst (IsNumbering c.add.new.files.items c.push.new.self.items)
          (sym (mapped_next witness_in xs i item w (omega arith) c.witness-item.is (ap (λ (s : Shown). s.witness) (sym c.deref.ensures))))
          (numbering_next c.loop-witness.files.items c.add.new.files.items c.loop-witness.numbers.items c.push.new.self.items (map witness_in (take i xs)) w
          c.in_ok-add.field-0 c.loop-witness.invariant.numbers c.in_ok-add.ensures.number c.in_ok-push.ensures.items);
      once = c.in_ok-add.ensures.once c.loop-witness.invariant.once;
    }

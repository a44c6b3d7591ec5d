use Rattle.std.proofs.Common.{◌++◌, flat_map, string_bytes, ap, ◌∙◌, arith}
use Rattle.fs_model.specs.Printed.{start_text}
use Rattle.fs_model.proofs.Numbered.{numbered_text, numbered_end}
use Rattle.fs_model.proofs.print.write_starts.Goals as goal

pub loop-hart-preserved : goal.loop-hart-preserved
loop-hart-preserved c =
    let hart = c.loop-hart.hart in
    let locations = c.args.locations.now in
    numbered_text (start_text locations) c.args.starts.now hart c.index-starts-hart.result (string_bytes c.args.text.now) (string_bytes c.loop-hart.text) (string_bytes c.write_start.new.text)
    (omega arith) c.index-starts-hart.is
    (c.in_ok-write_start.ensures ∙ ap (λ start. string_bytes c.loop-hart.text ++ start_text locations (hart, start)) c.as_slice.ensures)
    c.loop-hart.invariant

pub returns : goal.returns
returns c =
    c.loop-hart.invariant
    ∙ ap (λ ns. string_bytes c.args.text.now ++ flat_map (start_text c.args.locations.now) ns) (numbered_end c.args.starts.now c.loop-hart.hart (omega arith))

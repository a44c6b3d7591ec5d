-- What a kind orders, by the classes of the first and of the second.
use Rattle.std.proofs.Common.{◌≡◌, ◌&&◌, ◌||◌, Bool, true, false, rules}
use Rattle.fs_kinds.specs.declared.kind.Kind.{Kind}
use Rattle.fs_kinds.specs.declared.kind.Kind.TheVariants.{RR, RW, RRw, WR, WW, WRw, RwR, RwW, RwRw, Tso}
use Rattle.fs_kinds.specs.Kind.{orders}

pub by_first : (kind : Kind) (ra wa rb wb : Bool) → orders kind (record { reads = ra; writes = wa }) (record { reads = rb; writes = wb })
    ≡ ((ra && orders kind (record { reads = true; writes = false }) (record { reads = rb; writes = wb })) || (wa && orders kind (record { reads = false; writes = true }) (record { reads = rb; writes = wb })))
by_first RR ra wa rb wb = grind rules
by_first RW ra wa rb wb = grind rules
by_first RRw ra wa rb wb = grind rules
by_first WR ra wa rb wb = grind rules
by_first WW ra wa rb wb = grind rules
by_first WRw ra wa rb wb = grind rules
by_first RwR ra wa rb wb = grind rules
by_first RwW ra wa rb wb = grind rules
by_first RwRw ra wa rb wb = grind rules
by_first Tso ra wa rb wb = grind rules

pub by_second : (kind : Kind) (ra wa rb wb : Bool) → orders kind (record { reads = ra; writes = wa }) (record { reads = rb; writes = wb })
    ≡ ((orders kind (record { reads = ra; writes = wa }) (record { reads = true; writes = false }) && rb) || (orders kind (record { reads = ra; writes = wa }) (record { reads = false; writes = true }) && wb))
by_second RR ra wa rb wb = grind rules
by_second RW ra wa rb wb = grind rules
by_second RRw ra wa rb wb = grind rules
by_second WR ra wa rb wb = grind rules
by_second WW ra wa rb wb = grind rules
by_second WRw ra wa rb wb = grind rules
by_second RwR ra wa rb wb = grind rules
by_second RwW ra wa rb wb = grind rules
by_second RwRw ra wa rb wb = grind rules
by_second Tso ra wa rb wb = grind rules

use Rattle.std.proofs.Common.{ℕ, ◌-◌, length, take, subst, sym, rules}
use borrow.Rule.Slice.PartMut.{put_mid}
use Rattle.std.specs.Io.KnownBytes.{Consumes, ReadConsumes}
use Rattle.input.proofs.Filled.{more, none, failed}
use Rattle.input.proofs.fill.Goals as goal
use Rattle.input.proofs.fill.Goals.{in-Ok, in-Err}

pub returns-in-Ok-eq0-clause-bytes : goal.returns-in-Ok-eq0-clause-bytes
returns-in-Ok-eq0-clause-bytes g c =
    let given = subst (λ r. ReadConsumes (g.R.Read.remaining c.loop.from) (g.R.Read.remaining c.read.new.self) r c.read.new.buf) c.in-Ok-eq0.is c.read.ensures.bytes in
    none (g.R.Read.remaining c.args.from.now) (g.R.Read.remaining c.loop.from) (g.R.Read.remaining c.read.new.self) c.loop.n (length c.loop.buf - c.loop.n) c.loop.buf c.read.new.buf c.loop.invariant.0 c.loop.invariant.1 c.in-Ok-eq0.field-0 c.in-Ok-eq0.field-0-test given.0

pub loop-preserved : goal.loop-preserved
loop-preserved g c =
    let at : (n : ℕ) → Type 0 = λ n. Consumes (g.R.Read.remaining c.args.from.now) (g.R.Read.remaining c.read.new.self) (take n (put_mid c.loop.n (length c.loop.buf - c.loop.n) c.loop.buf c.read.new.buf)) in
    elim c.match-read.branch [
      | in-Ok w ↦ (search rules, subst at (sym w.n-is) (more (g.R.Read.remaining c.args.from.now) (g.R.Read.remaining c.loop.from) (g.R.Read.remaining c.read.new.self) c.loop.n (length c.loop.buf - c.loop.n) c.loop.buf c.read.new.buf c.loop.invariant.0 c.loop.invariant.1 w.in-Ok.k w.in-Ok.ensures.bound.0 w.in-Ok.ensures.bytes.0))
      | in-Err w ↦ (search rules, subst at (sym w.n-is) (failed (g.R.Read.remaining c.args.from.now) (g.R.Read.remaining c.loop.from) (g.R.Read.remaining c.read.new.self) c.loop.n (length c.loop.buf - c.loop.n) c.loop.buf c.read.new.buf c.loop.invariant.0 c.loop.invariant.1 w.in-Err.ensures.bytes))
    ]

-- `flux::faces` meets its contract: the faces passed are in range, and their Q in its place. Assumes nothing.
use Rattle.whole.specs.Row.{Filled}
use Rattle.flux.specs.Faces.{face_flux, Passed}
use Rattle.flux.proofs.faces.Given as goal

abbrev pub invariant-loop-j : goal.invariant-loop-j
invariant-loop-j l = record { filled : Filled (face_flux l.n l.p l.ms) l.initial.q-items l.j l.q-items; passed : Passed l.n l.p l.ms l.j }

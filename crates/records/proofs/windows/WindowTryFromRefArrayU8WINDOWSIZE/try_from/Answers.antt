use Rattle.std.proofs.Common.{◌∷◌, ◌++◌, sym, ◌∙◌, arith}
use Rattle.records.specs.WindowBytes.{validity_cut, used_in_range}
use Rattle.records.proofs.windows.WindowTryFromRefArrayU8WINDOWSIZE.try_from.Goals as goal

pub returns-in_ok-validity_of-in-1 : goal.returns-in_ok-validity_of-in-1
returns-in_ok-validity_of-in-1 c =
    let bs = c.args.bytes.now in
    let state = c.in-1.is in
    let told = c.in_ok-validity_of-in-1.ensures in
    ((λ i. sym state i ∷ (told.0 i ++ told.1 i)) ∙ validity_cut bs (omega arith), used_in_range bs state told.2)

use mathlib.Core.Path.{◌≡◌, ap, ◌∙◌}
use mathlib.Core.List.{List}
use Prim.Native.Nat.{ℕ, ◌-◌}
use native.Mathlib.Omega.{arith}
use lib.ListN.{length, take, drop, length-drop}
use lib.Seq.{take_all}
use Rattle.link_rules.proofs.OctetLaws.{put_all}
use Rattle.sheet_text.proofs.bundle.copy_from.Goals as goal

pub returns : goal.returns
returns c = let a = c.args in
    let bs = drop a.at a.from.now in
    let whole = take_all (length a.from.now - a.at) bs (omega (arith, length-drop a.at a.from.now)) in
    let long : length (take (length a.from.now - a.at) bs) ≡ length a.to.now = ap (λ (xs : List ℕ). length xs) whole ∙ omega (arith, length-drop a.at a.from.now, c.requires) in
    c.put_bytes.ensures ∙ (put_all (take (length a.from.now - a.at) bs) a.to.now long ∙ whole)

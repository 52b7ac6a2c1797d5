-- `fields::name::is_name` meets its contract: its bytes all are a name's. Assumes nothing.
use Prim.Native.Nat.{ℕ}
use mathlib.Core.Path.{◌≡◌, refl, ap, ◌∙◌}
use mathlib.Core.Bool.{◌&&◌}
use mathlib.Core.List.{List, [], ◌∷◌}
use borrow.Author.Tests.{le-leb}
use Rattle.std.proofs.Common.{rules, tests}
use Rattle.std.specs.List.{list_all}
use Rattle.std.proofs.lemmas.Iterator.{YieldsList-from_slice}
use Rattle.std.proofs.lemmas.Iterator.Search.{all_from_yields_List}
use Rattle.fields.specs.Names.{name_byte, name_bytes}
use Rattle.fields.proofs.name.is_name.Goals as goal

bytes-all : (f : List ℕ) → list_all name_byte f ≡ name_bytes f
unfolding name_bytes
bytes-all [] = refl
bytes-all (b ∷ f) = ap (λ t. name_byte b && t) (bytes-all f)

pub returns-then-f-le-NAME_MAX : goal.returns-then-f-le-NAME_MAX
returns-then-f-le-NAME_MAX c =
    let all = all_from_yields_List name_byte _ _ c.all.result c.all.ensures.ran (YieldsList-from_slice c.args.f.now cc) (λ x b q k. search (rules, tests)) in
    all ∙ bytes-all c.args.f.now ∙ simp (le-leb _ _ c.if-f-le-NAME_MAX.true.0, le-leb _ _ c.if-f-le-NAME_MAX.true.1)

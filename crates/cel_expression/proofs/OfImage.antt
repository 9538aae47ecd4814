-- The program of a compiled expression is the image of its text, and does what the text says.
use Rattle.std.proofs.Common.{◌≡◌, sym, subst}
use Rattle.cel_check.specs.Typing.{types_in}
use Rattle.cel_code.specs.declared.image.Image.{Image}
use Rattle.cel_expression.specs.Compiled.{IsCompiled as IsImage}
use Rattle.cel_expression.specs.Correct.{Computes}
use Rattle.cel_expression.specs.Faithful.{IsFaithful}
use Rattle.cel_expression.specs.Holds.{source_of, IsCompiled}
use Rattle.cel_expression.specs.Images.{IsImageOf}
use Rattle.cel_expression.specs.Source.{Source}
use Rattle.cel_expression.specs.Stages.{Bounds}
use Rattle.cel_expression.specs.declared.compiled.Compiled.TheInside.{Inside}

pub image_is : (c : Inside) → IsCompiled c → (s : Source) → source_of c ≡ s → (p : Image) → p ≡ c.program → IsImageOf s p
image_is c h s is p same =
    subst (λ q. IsImageOf q p) is
    (record { tree = h.tree; accepted = h.is; compiled = subst (λ q. IsImage q h.tree (types_in c.names)) (sym same) h.image })

pub faithful_is : (c : Inside) → IsCompiled c → (s : Source) → source_of c ≡ s → (p : Image) → p ≡ c.program → IsFaithful s p
faithful_is c h s is p same =
    subst (λ q. IsFaithful q p) is
    (record {
      tree = h.tree;
      accepted = h.is;
      computes = subst (λ q. Computes q h.tree) (sym same) h.computes;
      preserves = h.preserves;
      bounds = subst (Bounds (types_in c.names) h.tree) h.estimate h.bounds;
    })

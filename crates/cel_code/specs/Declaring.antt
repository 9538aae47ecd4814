-- What an image declares as the most that a run of it charges.
use Rattle.std.specs.Prelude.{ℕ, Some}
use Rattle.cel_code.specs.declared.image.Image.{Image}

-- the image that declares this number, and is the same in all else
abbrev pub declaring : ℕ → Image → Image
declaring most i = record {
  slots = i.slots;
  constants = i.constants;
  targets = i.targets;
  result = i.result;
  declared = Some most;
  code = i.code;
}

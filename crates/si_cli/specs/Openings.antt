-- What is known of files that were opened, and why not all were.
use Rattle.std.specs.Prelude.{◌≡◌, ◌<◌, ◌+◌, ℕ, true, false, All, List, [], ◌∷◌, Option, length, take, slice_index_or, ⊤}
use Rattle.std.specs.Io.KnownBytes.{Keeps}
use Rattle.clap.specs.Words.{Text}
use Rattle.si_text.specs.Devices.{Input, each_left, foretold}
use Rattle.si_cli.specs.Folders.{Folder}
use Rattle.si_cli.specs.declared.programs.NotOpened.{NotOpened}
use Rattle.si_cli.specs.declared.programs.NotOpened.TheVariants.{File, Memory}

-- as far as the bytes of the files are known, they are what their sources give, file by file
abbrev pub HoldFiles : List (Option (List ℕ)) → List (Option (List ℕ)) → Type 0
HoldFiles [] [] = ⊤
HoldFiles [] (left ∷ lefts) = ⊥
HoldFiles (bytes ∷ files) [] = ⊥
HoldFiles (bytes ∷ files) (left ∷ lefts) = Keeps bytes left × HoldFiles files lefts

-- the bytes of the files of these names, opened one after the other from this place on, where they are known
abbrev pub contents_from : ℕ → Folder → List Text → List (Option (List ℕ))
contents_from place folder [] = []
contents_from place folder (name ∷ names) = folder.bytes place name ∷ contents_from (place + 1) folder names

abbrev pub contents : Folder → List Text → List (Option (List ℕ))
contents folder names = contents_from 0 folder names

-- the bytes of these files, each where what its source has given is still known to be a beginning of them
abbrev pub each_held : List (Option (List ℕ)) → List Input → List (Option (List ℕ))
each_held [] sources = []
each_held (bytes ∷ files) [] = []
each_held (bytes ∷ files) (source ∷ sources) = foretold bytes source.left ∷ each_held files sources

-- of each of these names a source was opened: each gives the bytes of its file, as far as they are known, and has not failed
abbrev pub AreOpened : Folder → List Text → List Input → Type 0
AreOpened folder names sources = HoldFiles (contents folder names) (each_left sources) × All (λ source. source.failed ≡ false) sources

-- the file of that place may be one that can't be opened, and those before it were; or memory was refused
abbrev pub IsNotOpened : Folder → List Text → List Input → NotOpened → Type 0
IsNotOpened folder names sources (File place refused) = (place < length names) × (folder.may_lack (slice_index_or names place []) ≡ true) × AreOpened folder (take place names) sources
IsNotOpened folder names sources Memory = ⊤

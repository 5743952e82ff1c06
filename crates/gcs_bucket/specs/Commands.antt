-- Kinds of commands.
use Rattle.std.specs.Prelude.{◌≤◌, length, Bool, true, false}
use Rattle.gcs_meaning.specs.declared.command.Command.{Command}
use Rattle.gcs_meaning.specs.declared.command.Command.TheVariants.{List as Listing, Get, Change, Delete, Put, Compose, Restore, Start, Append, Finish, Cancel}

-- the command lists the versions of a bucket
abbrev pub is_list : Command → Bool
is_list (Listing bucket query) = true
is_list _ = false

-- the command is on one version
abbrev pub IsOnVersion : Command → Type 0
IsOnVersion (Get bucket name generation soft pre) = Unit {0}
IsOnVersion (Change bucket name generation pre change whole) = Unit {0}
IsOnVersion (Delete bucket name generation pre) = Unit {0}
IsOnVersion (Put bucket name pre meta hashed components expect) = Unit {0}
IsOnVersion (Compose bucket name pre meta parts) = length parts ≤ 32
IsOnVersion (Restore bucket name generation pre) = Unit {0}
IsOnVersion _ = ⊥

-- the command makes a version of what is stored
abbrev pub IsOfStored : Command → Type 0
IsOfStored (Compose bucket name pre meta parts) = length parts ≤ 32
IsOfStored (Restore bucket name generation pre) = Unit {0}
IsOfStored _ = ⊥

-- the command is on one upload
abbrev pub IsOnUpload : Command → Type 0
IsOnUpload (Start bucket name pre meta expect total) = Unit {0}
IsOnUpload (Append bucket upload offset total content) = Unit {0}
IsOnUpload (Finish bucket upload hashed) = Unit {0}
IsOnUpload (Cancel bucket upload) = Unit {0}
IsOnUpload _ = ⊥

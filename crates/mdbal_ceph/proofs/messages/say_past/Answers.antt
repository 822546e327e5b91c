use Rattle.mdbal_ceph.proofs.messages.say_past.Goals as goal

pub returns-in-OtherFileSystem : goal.returns-in-OtherFileSystem
returns-in-OtherFileSystem g c = rw c.in-OtherFileSystem.is c.say.ensures

pub returns-in-NothingInCommon : goal.returns-in-NothingInCommon
returns-in-NothingInCommon g c = rw c.in-NothingInCommon.is c.say-in-NothingInCommon.ensures

-- the waves of requests are these requests, and no two of a wave have a sector in common
pub mod OneByOne
-- what follows a wave
pub mod WaveByWave
-- shares in one unit
pub mod OneUnit
-- passes that meet
pub mod PassesMeet
-- a wave is taken, request by request
pub mod WaveIsTaken
-- replies are written in order
pub mod InOrder
-- the part of the history that one wave adds
pub mod OnePart
-- what is told of a session, wave by wave
pub mod ToldInWaves
-- the lanes of a wave that has run
pub mod RanLanes
-- one wave more
pub mod OneWave
-- how a client's bytes end
pub mod LastEnd
